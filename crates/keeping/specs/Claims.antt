-- A plane cut twice, by the contracts of the entries: whatever calls meet them, the second is accepted and leaves what one call would. Assumes nothing.
use Rattle.std.specs.Prelude.{◌≡◌, List, ℕ, min, max, ℤ}
use Rattle.keeping.specs.Entries.{keep_refusal, Kept, cut_refusal, Cut}

-- p is an accepted plane. The first call leaves p₁ of it, the second p₂ of p₁; one call on p leaves p₃. Each answers with a number n and a count c.
pub record KeepingLaws : Type 0 where
  -- Document 02: "For every accepted plane and any two accepted quotas, with sides and levels the same throughout, keeping L and then K must leave the same
  -- plane and final count as keeping the smaller of the two."
  pub keep_again : (height width levels L K : ℕ) (p p₁ p₂ p₃ : List ℤ) (n₁ n₂ n₃ c₁ c₂ c₃ : ℕ)
      → keep_refusal height width levels p L ≡ 0 → keep_refusal height width levels p K ≡ 0
      → Kept height width levels p p₁ L n₁ c₁ → Kept height width levels p₁ p₂ K n₂ c₂ → Kept height width levels p p₃ (min L K) n₃ c₃
      → (n₁ ≡ 0) × (n₂ ≡ 0) × (n₃ ≡ 0) × (p₂ ≡ p₃) × (c₂ ≡ c₃)
  -- "Cutting by T and then by S must likewise match the larger threshold."
  pub cut_again : (height width levels T S : ℕ) (p p₁ p₂ p₃ : List ℤ) (n₁ n₂ n₃ c₁ c₂ c₃ : ℕ)
      → cut_refusal height width levels p T ≡ 0 → cut_refusal height width levels p S ≡ 0
      → Cut height width levels p p₁ T n₁ c₁ → Cut height width levels p₁ p₂ S n₂ c₂ → Cut height width levels p p₃ (max T S) n₃ c₃
      → (n₁ ≡ 0) × (n₂ ≡ 0) × (n₃ ≡ 0) × (p₂ ≡ p₃) × (c₂ ≡ c₃)
