-- The answer for an input, by how its reading stopped. Assumes nothing.
use mathlib.Core.Path.{◌≡◌, refl, sym, ap, ◌∙◌, subst}
use mathlib.Core.List.{List, ◌++◌, append-nil}
use Prim.Native.Nat.{ℕ, ◌<◌}
use native.Mathlib.Omega.{arith}
use lib.ListN.{length, take, length-append}
use lib.Seq.{length-take-le}
use Rattle.std.specs.Prelude.{Option, None, Some, IfSome}
use Rattle.cutting.specs.Cutter.{input_limit, cutter_text, Printed}
use Rattle.cutting.proofs.Prints.{printed, too_long}
use Rattle.intake.specs.declared.reading.Input.{Input}
use Rattle.intake.specs.declared.reading.Input.TheVariants.{Ended, Full, Broken}
use Rattle.intake.specs.Reading.{InputAt, InputRead, InputGiven}
use Rattle.intake.specs.Cuts.{CutOf, WholeOf}

-- an input that is too long, whatever follows
any_rest : (t rest : List ℕ) → input_limit < length t → cutter_text (t ++ rest) ≡ cutter_text t
any_rest t rest h = too_long (t ++ rest) (omega (arith, length-append t rest)) ∙ sym (too_long t h)

module _ {before text : List ℕ} {r : Input} (p : InputRead 0 before text r) where
  at : {o : Input} → r ≡ o → InputAt 0 (length before) o
  at e = subst (λ (o : Input). InputAt 0 (length before) o) e p.place

  pub ended_in : {n : ℕ} → r ≡ Ended n → n < length text
  ended_in e = omega (arith, (at e).1, p.size)

  pub full_in : {n : ℕ} → r ≡ Full n → n ≡ length text
  full_in e = omega (arith, at e, p.size)

  pub cut_full : {old new : List ℕ} {n size : ℕ} → input_limit < length text → r ≡ Full n → Printed (cutter_text (take n text)) old new size → CutOf text old new size (Full n)
  cut_full {old} {new} {n} {size} l e h =
      let whole : length (take n text) ≡ n = length-take-le n text (omega (arith, full_in e)) in
      (full_in e, λ (rest : List ℕ). printed (any_rest (take n text) rest (omega (arith, whole, full_in e))) h)

pub cut_broken : (text old : List ℕ) {r : Input} → r ≡ Broken → CutOf text old old 0 r
cut_broken text old e = subst (λ (o : Input). CutOf text old old 0 o) (sym e) (refl, refl)

-- where all bytes of the input are known, they are those that the answer is for
pub ended_whole : (before after : Option (List ℕ)) (text old new : List ℕ) (size n : ℕ) → InputGiven 0 before after text (Ended n) → Printed (cutter_text (take n text)) old new size
    → IfSome before (λ all. Printed (cutter_text all) old new size)
ended_whole None after text old new size n g h = tt
ended_whole (Some all) None text old new size n g h = absurd g.0
ended_whole (Some all) (Some rest) text old new size n g h = printed (ap cutter_text (g.0 ∙ ap (λ l. take n text ++ l) g.1 ∙ append-nil (take n text))) h

pub full_whole : (before after : Option (List ℕ)) (text old new : List ℕ) (size n : ℕ) → InputGiven 0 before after text (Full n) → CutOf text old new size (Full n)
    → IfSome before (λ all. Printed (cutter_text all) old new size)
full_whole None after text old new size n g h = tt
full_whole (Some all) None text old new size n g h = absurd g
full_whole (Some all) (Some rest) text old new size n g h = printed (ap cutter_text g) (h.1 rest)

pub broken_whole : (before : Option (List ℕ)) (old new : List ℕ) {r : Input} → r ≡ Broken → IfSome before (λ all. WholeOf all old new 0 r)
broken_whole None old new e = tt
broken_whole (Some all) old new e = subst (λ (o : Input). WholeOf all old new 0 o) (sym e) tt
