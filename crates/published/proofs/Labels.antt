-- Step 3: the labels are a labelling, and no other has fewer deviations from the squares. Assumes nothing.
use mathlib.Core.Path.{◌≡◌, sym, ap, subst, subst⁻¹}
use mathlib.Core.Bool.{Bool, cond, not, ◌&&◌, ◌||◌}
use mathlib.Core.List.{List, [], ◌∷◌}
use mathlib.Core.Logic.{◌⊎◌, inl, inr}
use Prim.Native.Nat.{ℕ, suc, ◌<◌, ◌≤◌}
use native.Mathlib.Omega.{arith}
use lib.Dec.{T, eqb, eqb→eq, ltb, ltb→lt}
use lib.ListN.{length, get_or}
use Rattle.integers.specs.Lists.{every, one_of}
use Rattle.integers.proofs.Sums.{Σℕ_cong}
use Rattle.integers.proofs.Tests.{both_left, both_right, either, refused, up_to, up_to_at, every_at}
use Rattle.coverings.specs.Block.{name_of}
use Rattle.coverings.proofs.Search.{eq_list}
use Rattle.coverings.proofs.Sound.{eq_list→eq}
use Rattle.block.specs.Block.{labellings, square_of, differing, labels_of}
use Rattle.block.proofs.Labels.{fewest, smallest, squares}
use Rattle.published.specs.Published.{square_label, deviations}
use Rattle.published.specs.Laws.{Labelling}

-- where a list stands among others
abbrev index_in : List ℕ → List (List ℕ) → ℕ
index_in l [] = 0
index_in l (m ∷ ls) = cond (eq_list l m) 0 (suc (index_in l ls))

abbrev whole : List ℕ → Bool
whole l = every (one_of l) (0 ∷ 1 ∷ 2 ∷ 3 ∷ [])

-- a labelling is one of the 24
abbrev among : ℕ → ℕ → ℕ → ℕ → Bool
among a b c d = let l = a ∷ b ∷ c ∷ d ∷ [] in let i = index_in l labellings in not (whole l) || (ltb i 24 && eq_list (get_or labellings i []) l)

all_among : T (up_to 4 (λ a. up_to 4 (λ b. up_to 4 (λ c. up_to 4 (λ d. among a b c d)))))
all_among = tt

same_deviations : (w l : List ℕ) → deviations w l ≡ differing w l
same_deviations w l = Σℕ_cong 16 (λ a. cond (eqb (get_or l (name_of w a) 0) (square_label a)) 0 1) (λ a. cond (eqb (get_or l (name_of w a) 0) (square_of a)) 0 1)
    (λ a h. ap (λ (s : ℕ). cond {A = ℕ} (eqb (get_or l (name_of w a) 0) s) 0 1) (sym (squares a h)))

-- each of the 24 is a labelling
abbrev is_labelling : List ℕ → Bool
is_labelling l = eqb (length l) 4 && (every (λ a. ltb a 4) l && whole l)

all_labellings : T (every is_labelling labellings)
all_labellings = tt

labelling : (k : ℕ) → k < 24 → Labelling (get_or labellings k [])
labelling k h =
    let l = get_or labellings k [] in
    let t = every_at is_labelling labellings [] all_labellings k h in
    let u = both_right (eqb (length l) 4) (every (λ a. ltb a 4) l && whole l) t in
    (eqb→eq (length l) 4 (both_left (eqb (length l) 4) _ t), both_left (every (λ a. ltb a 4) l) (whole l) u, both_right (every (λ a. ltb a 4) l) (whole l) u)

taken : (w : List ℕ) → Labelling (labels_of w)
taken w = let s = smallest w in subst⁻¹ Labelling s.2 (labelling s.0 s.1)

-- and no labelling is missing
least : (w : List ℕ) (a b c d : ℕ) → Labelling (a ∷ b ∷ c ∷ d ∷ []) → deviations w (labels_of w) ≤ deviations w (a ∷ b ∷ c ∷ d ∷ [])
least w a b c d g = go (either (not (whole l)) (ltb i 24 && eq_list (get_or labellings i []) l) test)
  where
    l : List ℕ
    l = a ∷ b ∷ c ∷ d ∷ []

    i : ℕ
    i = index_in l labellings

    low : (k : ℕ) → k < 4 → get_or l k 0 < 4
    low k h = ltb→lt (get_or l k 0) 4 (every_at (λ a. ltb a 4) l 0 g.1 k h)

    test : T (among a b c d)
    test = up_to_at 4 (λ d. among a b c d) (up_to_at 4 (λ c. up_to 4 (λ d. among a b c d)) (up_to_at 4 (λ b. up_to 4 (λ c. up_to 4 (λ d. among a b c d))) (up_to_at 4 (λ a. up_to 4 (λ b. up_to 4 (λ c. up_to 4 (λ d. among a b c d)))) all_among a (low 0 (omega arith))) b (low 1 (omega arith))) c (low 2 (omega arith))) d (low 3 (omega arith))

    go : T (not (whole l)) ⊎ T (ltb i 24 && eq_list (get_or labellings i []) l) → deviations w (labels_of w) ≤ deviations w l
    go (inl n) = absurd (refused (whole l) n g.2)
    go (inr t) =
        let e = eq_list→eq (get_or labellings i []) l (both_right (ltb i 24) _ t) in
        let f = fewest w i (ltb→lt i 24 (both_left (ltb i 24) _ t)) in
        subst (λ (m : List ℕ). deviations w (labels_of w) ≤ deviations w m) e (omega (arith, f, same_deviations w (labels_of w), same_deviations w (get_or labellings i [])))

least_of : (w l : List ℕ) → Labelling l → deviations w (labels_of w) ≤ deviations w l
least_of w [] g = absurd (omega (arith, g.0))
least_of w (a ∷ []) g = absurd (omega (arith, g.0))
least_of w (a ∷ b ∷ []) g = absurd (omega (arith, g.0))
least_of w (a ∷ b ∷ c ∷ []) g = absurd (omega (arith, g.0))
least_of w (a ∷ b ∷ c ∷ d ∷ []) g = least w a b c d g
least_of w (a ∷ b ∷ c ∷ d ∷ e ∷ l) g = absurd (omega (arith, g.0))

pub labels : (w : List ℕ) → Labelling (labels_of w) × ((l : List ℕ) → Labelling l → deviations w (labels_of w) ≤ deviations w l)
labels w = (taken w, least_of w)
