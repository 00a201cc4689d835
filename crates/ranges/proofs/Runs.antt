-- Bounds of one entry, of a run, and of a rectangle column by column: a loop has looked at the first ones. Assumes nothing.
use mathlib.Core.Path.{◌≡◌, ap, ◌∙◌, subst, subst⁻¹}
use mathlib.Core.Bool.{Bool, true, false}
use mathlib.Core.Logic.{◌↔◌}
use mathlib.Core.List.{List}
use Prim.Native.Nat.{ℕ, ◌+◌, ◌*◌, ◌-◌, ◌<◌, ◌≤◌}
use native.Mathlib.Omega.{arith}
use native.Mathlib.Decide.{dec_lt}
use lib.Dec.{T}
use lib.IntN.{ℤ, pos}
use lib.ListN.{get_or, length, take, drop}
use Rattle.std.specs.Bool.{MatchBool}
use Rattle.std.specs.List.{AllWithin, HoldsAt}
use Rattle.std.proofs.lemmas.List.{get_or-drop, get_or-take, length-take, length-drop}
use Rattle.ranges.specs.Bounds.{Bounded, Run, Rectangle}

-- ---- a run

-- what an iterator's `all` answers of a run of low-pass entries
pub run_all : (most : ℕ) (p : List ℤ) (r : Bool) → MatchBool r (AllWithin (λ v. Bounded true most v) p 0 (length p)) ((k : ℕ) × (k < length p) × HoldsAt (λ v. Bounded true most v → ⊥) p k) → T r ↔ Run true most p 0 (length p)
run_all most p true h = ((λ t k l. h (0 + k) (pos 0) (omega arith) (omega arith)), (λ r. tt))
run_all most p false h =
    let e : 0 + h.0 ≡ h.0 = omega arith in
    ((λ t. absurd t), (λ r. absurd (h.2 (pos 0) (subst (λ (k : ℕ). Bounded true most (get_or p k (pos 0))) e (r h.0 h.1)))))

-- a run is a part of the plane
module _ (low : Bool) (most : ℕ) (p : List ℤ) (s n : ℕ) (inside : s + n ≤ length p) where
  abbrev part : List ℤ
  part = take (s + n - s) (drop s p)

  pub part_long : length part ≡ n
  part_long = let e : s + n - s ≡ n = omega arith in simp (length-take, length-drop) (omega arith)

  there_in : (k : ℕ) → k < n → get_or part (0 + k) (pos 0) ≡ get_or p (s + k) (pos 0)
  there_in k l =
      let e : 0 + k ≡ k = omega arith in
      ap (λ (i : ℕ). get_or part i (pos 0)) e ∙ get_or-take (s + n - s) (drop s p) k (pos 0) (omega arith) ∙ get_or-drop s p k (pos 0)

  pub run_part : Run low most part 0 (length part) ↔ Run low most p s n
  run_part = (
    (λ r k l. subst (λ (z : ℤ). Bounded low most z) (there_in k l) (r k (omega (arith, part_long)))),
    (λ r k l. let m : k < n = omega (arith, part_long) in subst⁻¹ (λ (z : ℤ). Bounded low most z) (there_in k m) (r k m)),
  )

-- a run and one entry more
module _ (low : Bool) (most : ℕ) (p : List ℤ) (first : ℕ) where
  pub run_none : Run low most p first 0
  run_none k l = absurd (omega arith)

  pub run_next : (n : ℕ) → Run low most p first n → Bounded low most (get_or p (first + n) (pos 0)) → Run low most p first (n + 1)
  run_next n r b k l = go (dec_lt k n)
    where
      go : Dec (k < n) → Bounded low most (get_or p (first + k) (pos 0))
      go (yes g) = r k g
      go (no g) = let e : n ≡ k = omega arith in subst (λ (k : ℕ). Bounded low most (get_or p (first + k) (pos 0))) e b

-- those beyond a bound are counted: none is, just if the run is within it
abbrev pub Counts : ℕ → List ℤ → ℕ → ℕ → ℕ → Type 0
Counts most p first n beyond = (beyond ≡ 0) ↔ Run false most p first n

-- the turn of such a count
pub count_next : (most : ℕ) (p : List ℤ) (first n beyond e : ℕ) → Counts most p first n beyond → (e ≡ 0) ↔ Bounded false most (get_or p (first + n) (pos 0)) → Counts most p first (n + 1) (beyond + e)
count_next most p first n beyond e c b = (
  (λ z. run_next false most p first n (c.0 (omega arith)) (b.0 (omega arith))),
  (λ r. let y = c.1 (λ k l. r k (omega arith)) in let z = b.1 (r n (omega arith)) in omega arith),
)

-- ---- a rectangle

module _ (low : Bool) (most : ℕ) (p : List ℤ) (h first m : ℕ) where
  -- a column of it
  there : (x y : ℕ) → first + x * h + y ≡ first + (x * h + y)
  there x y = omega arith

  pub rectangle_none : Rectangle low most p h first m 0
  rectangle_none y x k l = absurd (omega arith)

  pub rectangle_next : (c : ℕ) → Rectangle low most p h first m c → Run low most p (first + c * h) m → Rectangle low most p h first m (c + 1)
  rectangle_next c r b y x k l = go (dec_lt x c)
    where
      go : Dec (x < c) → Bounded low most (get_or p (first + (x * h + y)) (pos 0))
      go (yes g) = r y x k g
      go (no g) =
          let e : c ≡ x = omega arith in
          subst (λ (x : ℕ). Bounded low most (get_or p (first + (x * h + y)) (pos 0))) e
          (subst (λ (i : ℕ). Bounded low most (get_or p i (pos 0))) (there c y) (b y k))

  pub rectangle_column : (n c : ℕ) → c < n → Rectangle low most p h first m n → Run low most p (first + c * h) m
  rectangle_column n c l r y k = subst⁻¹ (λ (i : ℕ). Bounded low most (get_or p i (pos 0))) (there c y) (r y c k l)
