-- The cost of a cutting given by names depends only on its parts, and is that of the covering with the same parts. Assumes nothing.
use mathlib.Core.Path.{◌≡◌, refl, sym, ap, ◌∙◌, subst, subst⁻¹}
use mathlib.Core.Bool.{Bool, true, false, cond, ◌&&◌}
use mathlib.Core.List.{List, [], ◌∷◌}
use Prim.Native.Nat.{ℕ, zero, suc, ◌+◌, ◌*◌, ◌-◌, ◌≤◌, ◌<◌}
use native.Mathlib.Omega.{arith}
use native.Mathlib.Nat.{mul-one}
use lib.Dec.{T, eqb, eqb→eq}
use lib.IntN.{ℤ, nat_abs}
use lib.ListN.{get_or}
use Rattle.integers.specs.Sum.{Σℕ}
use Rattle.integers.proofs.Sums.{Σℕ_cong, Σℕ_scale, Σℕ_swap, δ, pick_out}
use Rattle.coverings.specs.Block.{cells, filter, part, name_of, Cutting, Same}
use Rattle.coverings.specs.Words.{words, word_of}
use Rattle.coverings.specs.Rule.{Number}
use Rattle.integers.specs.Lists.{every}
use Rattle.integers.proofs.Tests.{up_to, up_to_at, eq→eqb, every_at}
use Rattle.coverings.proofs.Table.{rule, count}
use Rattle.block.specs.Block.{sign_row, values_of, cost_of, cost_named, shapes_of, pick}
use Rattle.block.proofs.Words.{good}
use Rattle.block.proofs.Pick.{same_shape, pick_lowest}

-- c is the smallest cell of a list
abbrev first : List ℕ → ℕ → Bool
first l c = eqb (get_or l 0 0) c

abbrev piece_cost : (ℕ → ℤ) → List ℕ → ℕ
piece_cost v l = Σℕ 3 (λ b. nat_abs (sign_row (suc b) (λ i. v (get_or l i 0))))

-- the same parts, the same cost
same_cost : (name other : ℕ → ℕ) → Same name other → (v : ℕ → ℤ) → cost_named name v ≡ cost_named other v
unfolding cost_named
same_cost name other s v =
    Σℕ_cong 16 (λ c. cond (first (filter (part name c) cells) c) (piece_cost v (filter (part name c) cells)) 0) (λ c. cond (first (filter (part other c) cells) c) (piece_cost v (filter (part other c) cells)) 0)
    (λ c h. ap {B = ℕ} (λ (l : List ℕ). cond (first l c) (piece_cost v l) 0) (same_shape (part name c) (part other c)
    (λ a k. ((λ t. eq→eqb ((s a c k h).0 (eqb→eq (name a) (name c) t))), (λ t. eq→eqb ((s a c k h).1 (eqb→eq (other a) (other c) t)))))))

-- each piece of a word of the table has one smallest cell
abbrev smallest : List ℕ → ℕ → ℕ
smallest w c = cond (first (filter (part (name_of w) c) cells) c) 1 0

abbrev one_smallest : List ℕ → Bool
one_smallest w = up_to 4 (λ p. eqb (Σℕ 16 (λ c. smallest w c * δ (name_of w c) p)) 1)

all_smallest : T (every one_smallest words)
unfolding words
all_smallest = tt

pub named_cost : (n : ℕ) → Number n → (v : ℕ → ℤ) → cost_named (name_of (word_of n)) v ≡ cost_of (shapes_of (word_of n)) v
unfolding cost_named cost_of word_of
named_cost n h v =
    Σℕ_cong 16 (λ c. cond (first (filter (part (name_of w) c) cells) c) (f (name_of w c)) 0) (λ c. Σℕ 4 (λ p. f p * (smallest w c * δ (name_of w c) p)))
    (λ c l. weigh (first (filter (part (name_of w) c) cells) c) (f (name_of w c)) ∙ sym (inner c l))
    ∙ Σℕ_swap 16 4 (λ c p. f p * (smallest w c * δ (name_of w c) p))
    ∙ Σℕ_cong 4 (λ p. Σℕ 16 (λ c. f p * (smallest w c * δ (name_of w c) p))) f
    (λ p l. Σℕ_scale 16 (f p) (λ c. smallest w c * δ (name_of w c) p) ∙ ap (λ (x : ℕ). f p * x) (once p l) ∙ mul-one (f p))
  where
    w : List ℕ
    w = word_of n

    f : ℕ → ℕ
    f p = piece_cost v (filter (shapes_of w p) cells)

    once : (p : ℕ) → p < 4 → Σℕ 16 (λ c. smallest w c * δ (name_of w c) p) ≡ 1
    once p l = eqb→eq (Σℕ 16 (λ c. smallest w c * δ (name_of w c) p)) 1 (up_to_at 4 (λ p. eqb (Σℕ 16 (λ c. smallest w c * δ (name_of w c) p)) 1) (every_at one_smallest words [] all_smallest (n - 1) (omega (arith, count))) p l)

    weigh : (b : Bool) (x : ℕ) → cond b x 0 ≡ cond b 1 0 * x
    weigh true x = omega arith
    weigh false x = omega arith

    inner : (c : ℕ) → c < 16 → Σℕ 4 (λ p. f p * (smallest w c * δ (name_of w c) p)) ≡ smallest w c * f (name_of w c)
    inner c l =
        Σℕ_cong 4 (λ p. f p * (smallest w c * δ (name_of w c) p)) (λ p. smallest w c * (δ (name_of w c) p * f p)) (λ p k. move (f p) (smallest w c) (δ (name_of w c) p))
        ∙ Σℕ_scale 4 (smallest w c) (λ p. δ (name_of w c) p * f p)
        ∙ ap (λ (x : ℕ). smallest w c * x) (pick_out 4 (name_of w c) f ((good n h).cells.named c l))
      where
        move : (a b c : ℕ) → a * (b * c) ≡ b * (c * a)
        move a b c = omega arith

-- each cutting costs what the covering with its parts costs
pub cutting_cost : (name : ℕ → ℕ) (c : Cutting name) (v : ℕ → ℤ) → cost_named name v ≡ cost_of (shapes_of (word_of (rule.general name c).0)) v
cutting_cost name c v = let r = rule.general name c in same_cost name (name_of (word_of r.0)) r.2 v ∙ named_cost r.0 r.1 v

pub pick_named : (earlier : List ℕ) (v : ℕ → ℤ) (name : ℕ → ℕ) → Cutting name → cost_of (shapes_of (word_of (pick earlier v))) v ≤ cost_named name v
pick_named earlier v name c =
    let r = rule.general name c in
    subst⁻¹ (λ (x : ℕ). cost_of (shapes_of (word_of (pick earlier v))) v ≤ x) (cutting_cost name c v) (pick_lowest earlier v r.0 r.1)
