-- The rest of the cutter's input, part by part. Assumes nothing.
use mathlib.Core.Path.{◌≡◌, refl, ap, ◌∙◌}
use mathlib.Core.List.{List, [], ◌∷◌}
use mathlib.Core.Option.{none, some}
use Prim.Native.Nat.{ℕ, ◌*◌, ◌<◌}
use native.Mathlib.Omega.{arith}
use lib.IntN.{ℤ}
use lib.ListN.{length}
use Rattle.text.specs.Bytes.{bytes}
use Rattle.text.specs.Text.{Parsed, bad, got, and_then, exactly, rows, times, skip, sections, whole, parse, FitsCount}
use Rattle.text.proofs.Rows.{rows_sound}
use Rattle.cutter_text.specs.Forms.{plains, samples_form}
use Rattle.cutter_text.specs.Rows.{rows_in, rows_of, Stored}
use Rattle.cutter_text.proofs.Turned.{turned}

abbrev pub M : List ℕ
M = bytes "samples\n"

whole_left : {A : Type 0} (a : A) (b : List ℕ) → 0 < length b → whole (got a b) ≡ none
unfolding whole
whole_left a [] l = absurd (omega arith)
whole_left a (x ∷ xs) l = refl

whole_all : {A : Type 0} (a : A) (b : List ℕ) → length b ≡ 0 → whole (got a b) ≡ some a
unfolding whole
whole_all a [] l = refl
whole_all a (x ∷ xs) l = absurd (omega arith)

fits : (n : ℕ) (rs : List (List ℤ)) → FitsCount (exactly n) (length rs) → length rs ≡ n
unfolding FitsCount
fits n rs h = h

module _ (h w : ℕ) (t : List ℕ) where
  pub no_names : skip M t ≡ bad → parse (samples_form h w) t ≡ none
  unfolding sections whole
  no_names e = rw e

  module _ (r : List ℕ) (e : skip M t ≡ got tt r) where
    parse-is : (x : Parsed (List (List ℤ))) → times h (plains w) r ≡ x → parse (samples_form h w) t ≡ whole (and_then x (λ a b. got (a ∷ []) b))
    unfolding sections rows
    parse-is x g = rw (e, g)

    module _ (out : List ℕ) where
      rows-bad : (x : Parsed (List (List ℤ))) → times h (plains w) r ≡ x → bad ≡ rows_of h 0 out x → parse (samples_form h w) t ≡ none
      unfolding whole
      rows-bad bad g k = parse-is bad g
      rows-bad (got rs b) g k = absurd (let z : ◌≡◌ {A = ℕ} 0 1 = cc in omega arith)

      pub no_rows : bad ≡ rows_of h 0 out (times h (plains w) r) → parse (samples_form h w) t ≡ none
      no_rows k = rows-bad (times h (plains w) r) refl k

      rows_left : (out' b : List ℕ) (x : Parsed (List (List ℤ))) → times h (plains w) r ≡ x → got out' b ≡ rows_of h 0 out x → 0 < length b → parse (samples_form h w) t ≡ none
      rows_left out' b bad g k l = absurd (let z : ◌≡◌ {A = ℕ} 0 1 = cc in omega arith)
      rows_left out' b (got rs c) g k l = let q : b ≡ c = cc in parse-is (got rs c) g ∙ whole_left (rs ∷ []) c (omega (arith, ap length q))

      pub goes_on : (out' b : List ℕ) → got out' b ≡ rows_of h 0 out (times h (plains w) r) → 0 < length b → parse (samples_form h w) t ≡ none
      goes_on out' b k l = rows_left out' b (times h (plains w) r) refl k l

      rows_all : (out' b : List ℕ) (x : Parsed (List (List ℤ))) → times h (plains w) r ≡ x → got out' b ≡ rows_of h 0 out x → length b ≡ 0 → length out ≡ w * h → Stored h w (parse (samples_form h w) t) out'
      unfolding rows
      rows_all out' b bad g k l f = absurd (let z : ◌≡◌ {A = ℕ} 0 1 = cc in omega arith)
      rows_all out' b (got rs c) g k l f =
          let q : b ≡ c = cc in
          let o : out' ≡ rows_in h 0 rs out = cc in
          let s = rows_sound (exactly h) (plains w) r rs c g in
          record {
            lines = rs ∷ [];
            read = parse-is (got rs c) g ∙ whole_all (rs ∷ []) c (omega (arith, ap length q));
            samples = o ∙ turned h w rs out (fits h rs s.0) s.1.fits f;
          }

      pub stored : (out' b : List ℕ) → got out' b ≡ rows_of h 0 out (times h (plains w) r) → length b ≡ 0 → length out ≡ w * h → Stored h w (parse (samples_form h w) t) out'
      stored out' b k l f = rows_all out' b (times h (plains w) r) refl k l f
