-- What the cutter prints, by what its checks found. Assumes nothing.
use Rattle.std.specs.Prelude.{Result, Ok, Err, ⊤}
use mathlib.Core.Path.{◌≡◌, refl, sym, ap, ◌∙◌, subst}
use mathlib.Core.Bool.{Bool, true, false, ◌||◌}
use mathlib.Core.List.{List, []}
use mathlib.Core.Option.{Option, none}
use Prim.Native.Nat.{ℕ, ◌<◌, ◌≤◌}
use native.Mathlib.Omega.{arith}
use lib.Dec.{ltb}
use lib.IntN.{ℤ}
use lib.ListN.{length, get_or, drop, length-append}
use borrow.Author.Tests.{ltb-false, lt-ltb, le-ltb}
use Rattle.pyramid.specs.Sides.{is_sides, is_depth}
use Rattle.refusals.specs.Refusal.{number_of, answer_of}
use Rattle.refusals.specs.declared.Refusal.{Refusal}
use Rattle.text.specs.Text.{parse}
use Rattle.cutter_text.specs.Forms.{samples_form}
use Rattle.cutter_text.specs.Picture.{picture_in}
use Rattle.cutting.specs.Cutter.{refusal_text, picture_text, samples_text, sizes_text, header_text, input_limit, cutter_text, Printed}
use Rattle.cutter_text.specs.Header.{Headed, HeaderIn}
use Rattle.cutting.specs.Checked.{Passed, Checked}
use Rattle.cutter_text.specs.Rows.{Stored, SamplesIn}
use Rattle.cutter_text.specs.declared.header.Heading.{Heading}
use Rattle.cutting.proofs.Sheets.{held_text}

pub printed : {x y old new : List ℕ} {m : ℕ} → x ≡ y → Printed y old new m → Printed x old new m
printed {x} {y} {old} {new} {m} e h = subst (λ (t : List ℕ). Printed t old new m) (sym e) h

-- the rows
module _ (h w R K : ℕ) (o : Option (List (List (List ℤ)))) where
  none_text : o ≡ none → samples_text h w R K o ≡ refusal_text 9
  unfolding samples_text
  none_text e = rw e

  pub no_rows : (new : List ℕ) (a : Result ⊤ Refusal) (r : Refusal) → a ≡ Err r → SamplesIn h w o new a → (m : ℕ) → m ≡ answer_of a → samples_text h w R K o ≡ refusal_text m
  no_rows new a r e f m k = let x = subst (SamplesIn h w o new) e f in none_text x.0 ∙ ap refusal_text (sym (k ∙ ap answer_of e ∙ x.1))

  stored_text : (new : List ℕ) → Stored h w o new → samples_text h w R K o ≡ picture_text h w R K new
  unfolding samples_text
  stored_text new f = ap (samples_text h w R K) f.read ∙ sym (held_text h w R K (picture_in h w (get_or f.lines 0 []))) ∙ ap (picture_text h w R K) (sym f.samples)

  pub some_rows : (new : List ℕ) (a : Result ⊤ Refusal) → a ≡ (Ok tt) → SamplesIn h w o new a → samples_text h w R K o ≡ picture_text h w R K new
  some_rows new a e f = stored_text new (subst (SamplesIn h w o new) e f)

-- the sizes
module _ (h w R K : ℕ) (rest : List ℕ) where
  size_1 : is_sides h w ≡ false → sizes_text h w R K rest ≡ refusal_text 1
  unfolding sizes_text
  size_1 e = rw e

  size_12 : is_sides h w ≡ true → (ltb 32 h || ltb 32 w) ≡ true → sizes_text h w R K rest ≡ refusal_text 12
  unfolding sizes_text
  size_12 e l = rw (e, l)

  size_2 : is_sides h w ≡ true → (ltb 32 h || ltb 32 w) ≡ false → is_depth R h w ≡ false → sizes_text h w R K rest ≡ refusal_text 2
  unfolding sizes_text
  size_2 e l d = rw (e, l, d)

  pub size_good : is_sides h w ≡ true → (ltb 32 h || ltb 32 w) ≡ false → is_depth R h w ≡ true → sizes_text h w R K rest ≡ samples_text h w R K (parse (samples_form h w) rest)
  unfolding sizes_text
  size_good e l d = rw (e, l, d)

neither : (a b : Bool) → (a || b) ≡ false → (a ≡ false) × (b ≡ false)
neither true b e = absurd (let z : ◌≡◌ {A = ℕ} 0 1 = cc in omega arith)
neither false b e = (refl, e)

-- the whole
module _ (t : List ℕ) where
  pub too_long : input_limit < length t → cutter_text t ≡ refusal_text 9
  unfolding cutter_text
  too_long l = rw (lt-ltb input_limit (length t) l)

  module _ (l : length t ≤ input_limit) where
    bad-text : (r : Refusal) → HeaderIn t (Err r) → cutter_text t ≡ refusal_text (number_of r)
    unfolding cutter_text header_text
    bad-text r e = rw (le-ltb input_limit (length t) l, e.0, e.1)

    pub no_header : (o : Result Heading Refusal) (r : Refusal) → o ≡ Err r → HeaderIn t o → Checked t o
    no_header o r e h = subst (Checked t) (sym e) (bad-text r (subst (HeaderIn t) e h))

    module _ (h : Heading) (e : Headed t h) where
      sizes : cutter_text t ≡ sizes_text h.height h.width h.levels h.quota (drop h.next t)
      unfolding cutter_text header_text
      sizes = rw (le-ltb input_limit (length t) l, e.read)

      pub no_sides : is_sides h.height h.width ≡ false → cutter_text t ≡ refusal_text 1
      no_sides a = sizes ∙ size_1 h.height h.width h.levels h.quota (drop h.next t) a

      pub too_large : is_sides h.height h.width ≡ true → (ltb 32 h.height || ltb 32 h.width) ≡ true → cutter_text t ≡ refusal_text 12
      too_large a b = sizes ∙ size_12 h.height h.width h.levels h.quota (drop h.next t) a b

      pub no_depth : is_sides h.height h.width ≡ true → (ltb 32 h.height || ltb 32 h.width) ≡ false → is_depth h.levels h.height h.width ≡ false → cutter_text t ≡ refusal_text 2
      no_depth a b c = sizes ∙ size_2 h.height h.width h.levels h.quota (drop h.next t) a b c

      pub passes : is_sides h.height h.width ≡ true → (ltb 32 h.height || ltb 32 h.width) ≡ false → is_depth h.levels h.height h.width ≡ true → Passed t h
      passes a b c =
          let s = neither (ltb 32 h.height) (ltb 32 h.width) b in
          record {
            sided = a;
            tall = ltb-false 32 h.height s.0;
            wide = ltb-false 32 h.width s.1;
            deep = c;
            within = e.within;
            text = sizes ∙ size_good h.height h.width h.levels h.quota (drop h.next t) a b c;
          }

-- what is printed stands in the slice
pub within : {t old new : List ℕ} {m : ℕ} → Printed t old new m → m ≤ length new
within {t} {old} {new} {m} h = omega (arith, h.size, ap length h.slice, length-append t (drop (length t) old))
