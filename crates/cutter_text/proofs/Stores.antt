-- Rows stored as they are read. Assumes nothing.
use mathlib.Core.Path.{◌≡◌, refl, sym, ap, ◌∙◌}
use mathlib.Core.List.{List, [], ◌∷◌}
use Prim.Native.Nat.{ℕ, zero, suc, ◌+◌, ◌*◌, ◌-◌, ◌<◌, ◌≤◌}
use native.Mathlib.Omega.{arith}
use borrow.Author.Tests.{le-leb, lt-leb}
use lib.IntN.{ℤ, pos, nat_abs}
use lib.ListN.{drop, set}
use Rattle.text.specs.Text.{Parsed, bad, got, and_then, plain, row, times, after}
use Rattle.text.specs.At.{size_at}
use Rattle.std.specs.Prelude.{Some, None}
use Rattle.text.proofs.Line.{one, one_bad, last, last_bad}
use Rattle.cutter_text.specs.Forms.{plains}
use Rattle.cutter_text.specs.Rows.{held_to, row_in, rows_in, row_of, rows_of}

pub held_small : (v : ℕ) → v ≤ 4095 → v ≡ held_to v
held_small v l = rw (le-leb v 4095 l)

pub held_large : (v : ℕ) → 4095 < v → 4096 ≡ held_to v
held_large v l = rw (lt-leb v 4095 l)

pub after_last : (m : ℕ) → m ≡ 0 → 10 ≡ after (plains m)
unfolding after
after_last zero e = refl
after_last (suc m) e = absurd (omega arith)

pub after_more : (m : ℕ) → 0 < m → 32 ≡ after (plains m)
unfolding after
after_more zero e = absurd (omega arith)
after_more (suc m) e = refl

module _ (h y x : ℕ) (out : List ℕ) where
  pub row_cons : (v : ℤ) (p : Parsed (List ℤ)) → row_of h y x out (and_then p (λ vs r. got (v ∷ vs) r)) ≡ row_of h y (suc x) (set out (x * h + y) (held_to (nat_abs v))) p
  unfolding row_in
  row_cons v bad = refl
  row_cons v (got vs r) = refl

  pub row_next : (m : ℕ) (s : List ℕ) (p c v next : ℕ) → c ≡ after (plains m) → size_at s p c ≡ Some (v, next)
      → row_of h y x out (row (plains (suc m)) (drop p s)) ≡ row_of h y (suc x) (set out (x * h + y) (held_to v)) (row (plains m) (drop next s))
  unfolding after row
  row_next zero s p c v next k e = ap (row_of h y x out) (last s p v next (ap (size_at s p) (sym k) ∙ e)) ∙ row_cons (pos v) (got [] (drop next s))
  row_next (suc m) s p c v next k e =
      ap (row_of h y x out) (one (plains m) plain s p v next (ap (size_at s p) (sym k) ∙ e)) ∙ row_cons (pos v) (row (plains (suc m)) (drop next s))

  pub row_none : (m : ℕ) (s : List ℕ) (p c : ℕ) → c ≡ after (plains m) → size_at s p c ≡ None → row_of h y x out (row (plains (suc m)) (drop p s)) ≡ bad
  unfolding after
  row_none zero s p c k e = ap (row_of h y x out) (last_bad s p (ap (size_at s p) (sym k) ∙ e))
  row_none (suc m) s p c k e = ap (row_of h y x out) (one_bad (plains m) plain s p (ap (size_at s p) (sym k) ∙ e))

  pub row_end : (m : ℕ) (t : List ℕ) → m ≡ 0 → row_of h y x out (row (plains m) t) ≡ got out t
  unfolding row row_in
  row_end zero t e = refl
  row_end (suc m) t e = absurd (omega arith)

-- the same at a loop's counter
module _ (h w y x : ℕ) (out s : List ℕ) (p : ℕ) where
  pub row_again : x < w → (c v next u : ℕ) → c ≡ after (plains (w - x - 1)) → size_at s p c ≡ Some (v, next) → u ≡ held_to v
      → row_of h y (x + 1) (set out (x * h + y) u) (row (plains (w - (x + 1))) (drop next s)) ≡ row_of h y x out (row (plains (w - x)) (drop p s))
  row_again l c v next u k e i =
      let m = w - x - 1 in
      let e₁ : w - x ≡ suc m = omega arith in
      let e₂ : w - (x + 1) ≡ m = omega arith in
      let e₃ : x + 1 ≡ suc x = omega arith in
      (λ j. row_of h y (e₃ j) (set out (x * h + y) (i j)) (row (plains (e₂ j)) (drop next s)))
      ∙ sym (row_next h y x out m s p c v next k e)
      ∙ ap (λ (j : ℕ). row_of h y x out (row (plains j) (drop p s))) (sym e₁)

  pub row_stop : x < w → (c : ℕ) → c ≡ after (plains (w - x - 1)) → size_at s p c ≡ None → row_of h y x out (row (plains (w - x)) (drop p s)) ≡ bad
  row_stop l c k e =
      let m = w - x - 1 in
      let e₁ : w - x ≡ suc m = omega arith in
      ap (λ (j : ℕ). row_of h y x out (row (plains j) (drop p s))) e₁ ∙ row_none h y x out m s p c k e

  pub row_done : w ≤ x → row_of h y x out (row (plains (w - x)) (drop p s)) ≡ got out (drop p s)
  row_done l = row_end h y x out (w - x) (drop p s) (omega arith)

module _ (h w y : ℕ) (out : List ℕ) where
  rows_cons : (v : List ℤ) (p : Parsed (List (List ℤ))) → rows_of h y out (and_then p (λ vs r. got (v ∷ vs) r)) ≡ rows_of h (suc y) (row_in h y 0 v out) p
  unfolding rows_in
  rows_cons v bad = refl
  rows_cons v (got vs r) = refl

  lines_next : (m : ℕ) (out' t' : List ℕ) (p : Parsed (List ℤ)) → got out' t' ≡ row_of h y 0 out p
      → rows_of h y out (and_then p (λ v r. and_then (times m (plains w) r) (λ vs r'. got (v ∷ vs) r'))) ≡ rows_of h (suc y) out' (times m (plains w) t')
  lines_next m out' t' bad e = absurd (let z : ◌≡◌ {A = ℕ} 0 1 = cc in omega arith)
  lines_next m out' t' (got v r) e =
      let a : out' ≡ row_in h y 0 v out = cc in
      let b : t' ≡ r = cc in
      rows_cons v (times m (plains w) r) ∙ (λ i. rows_of h (suc y) (sym a i) (times m (plains w) (sym b i)))

  lines_none : (m : ℕ) (p : Parsed (List ℤ)) → bad ≡ row_of h y 0 out p
      → rows_of h y out (and_then p (λ v r. and_then (times m (plains w) r) (λ vs r'. got (v ∷ vs) r'))) ≡ bad
  lines_none m bad e = refl
  lines_none m (got v r) e = absurd (let z : ◌≡◌ {A = ℕ} 0 1 = cc in omega arith)

  pub rows_next : (m : ℕ) (t out' t' : List ℕ) → got out' t' ≡ row_of h y 0 out (row (plains w) t)
      → rows_of h y out (times (suc m) (plains w) t) ≡ rows_of h (suc y) out' (times m (plains w) t')
  unfolding times
  rows_next m t out' t' e = lines_next m out' t' (row (plains w) t) e

  pub rows_none : (m : ℕ) (t : List ℕ) → bad ≡ row_of h y 0 out (row (plains w) t) → rows_of h y out (times (suc m) (plains w) t) ≡ bad
  unfolding times
  rows_none m t e = lines_none m (row (plains w) t) e

  pub rows_end : (m : ℕ) (t : List ℕ) → m ≡ 0 → rows_of h y out (times m (plains w) t) ≡ got out t
  unfolding times rows_in
  rows_end zero t e = refl
  rows_end (suc m) t e = absurd (omega arith)

module _ (h w y : ℕ) (out s : List ℕ) (p : ℕ) where
  pub rows_again : y < h → (out' : List ℕ) (next : ℕ) → got out' (drop next s) ≡ row_of h y 0 out (row (plains w) (drop p s))
      → rows_of h (y + 1) out' (times (h - (y + 1)) (plains w) (drop next s)) ≡ rows_of h y out (times (h - y) (plains w) (drop p s))
  rows_again l out' next e =
      let m = h - (y + 1) in
      let e₁ : h - y ≡ suc m = omega arith in
      let e₃ : y + 1 ≡ suc y = omega arith in
      ap (λ (j : ℕ). rows_of h j out' (times m (plains w) (drop next s))) e₃
      ∙ sym (rows_next h w y out m (drop p s) out' (drop next s) e)
      ∙ ap (λ (j : ℕ). rows_of h y out (times j (plains w) (drop p s))) (sym e₁)

  pub rows_stop : y < h → bad ≡ row_of h y 0 out (row (plains w) (drop p s)) → rows_of h y out (times (h - y) (plains w) (drop p s)) ≡ bad
  rows_stop l e =
      let m = h - (y + 1) in
      let e₁ : h - y ≡ suc m = omega arith in
      ap (λ (j : ℕ). rows_of h y out (times j (plains w) (drop p s))) e₁ ∙ rows_none h w y out m (drop p s) e

  pub rows_done : h ≤ y → rows_of h y out (times (h - y) (plains w) (drop p s)) ≡ got out (drop p s)
  rows_done l = rows_end h w y out (h - y) (drop p s) (omega arith)
