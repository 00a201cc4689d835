-- What the code finds of a text up to the rows. Assumes nothing.
use Rattle.std.specs.Prelude.{◌≡◌, true, List, ℕ, ◌≤◌, length, drop, Result, Ok, Err}
use Rattle.refusals.specs.Refusal.{number_of}
use Rattle.pyramid.specs.Sides.{is_sides, is_depth}
use Rattle.text.specs.Text.{parse}
use Rattle.cutter_text.specs.Forms.{samples_form}
use Rattle.cutter_text.specs.declared.header.Heading.{Heading}
use Rattle.refusals.specs.declared.Refusal.{Refusal}
use Rattle.cutting.specs.Cutter.{refusal_text, samples_text, cutter_text}

-- A header that passed all checks: what is left to print is what the rows give.
pub record Passed (t : List ℕ) (h : Heading) : Type 0 where
  pub sided : is_sides h.height h.width ≡ true
  pub tall : h.height ≤ 32
  pub wide : h.width ≤ 32
  pub deep : is_depth h.levels h.height h.width ≡ true
  pub within : h.next ≤ length t
  pub text : cutter_text t ≡ samples_text h.height h.width h.levels h.quota (parse (samples_form h.height h.width) (drop h.next t))

abbrev pub Checked : List ℕ → Result Heading Refusal → Type 0
Checked t (Ok h) = Passed t h
Checked t (Err r) = cutter_text t ≡ refusal_text (number_of r)
