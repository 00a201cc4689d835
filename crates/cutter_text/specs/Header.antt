-- What the code finds of the header at the front of a text. Assumes nothing.
use Rattle.std.specs.Prelude.{◌≡◌, List, [], ◌∷◌, ℕ, ◌≤◌, pos, length, drop, Result, Ok, Err}
use Rattle.refusals.specs.Refusal.{number_of}
use Rattle.refusals.specs.declared.Refusal.{Refusal}
use Rattle.text.specs.Text.{bad, got, sections}
use Rattle.cutter_text.specs.Forms.{header_form}
use Rattle.cutter_text.specs.declared.header.Heading.{Heading}

-- The number of a header that is refused, and 0 of one that is not.
abbrev pub header_of : Result Heading Refusal → ℕ
header_of (Ok h) = 0
header_of (Err r) = number_of r

pub record Headed (t : List ℕ) (h : Heading) : Type 0 where
  pub read : sections header_form t ≡ got (((pos h.height ∷ pos h.width ∷ pos h.levels ∷ pos h.quota ∷ []) ∷ []) ∷ []) (drop h.next t)
  pub within : h.next ≤ length t

-- The line rules alone: "9 on the header".
abbrev pub HeaderIn : List ℕ → Result Heading Refusal → Type 0
HeaderIn t (Ok h) = Headed t h
HeaderIn t (Err r) = (sections header_form t ≡ bad) × (number_of r ≡ 9)
