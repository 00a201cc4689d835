-- The tally of a pass along the tetrolet entries: what it is after one entry more. Assumes nothing.
use Rattle.std.specs.Prelude.{◌≡◌, Bool, cond, ◌&&◌, ◌||◌, ℕ, ◌+◌, ◌-◌, eqb, ltb}
use Rattle.sifting.specs.declared.tally.Tally.{Tally}

-- An entry stays if it is not zero and its rank is above the limit, or is the limit and an entry of this rank may still stay.
abbrev pub stays_now : Tally → ℕ → Bool
stays_now t rank = ltb 0 rank && (ltb t.limit rank || (eqb t.limit rank && ltb 0 t.left))

pub record Tallied (t : Tally) (rank : ℕ) (t' : Tally) : Type 0 where
  pub limit : t'.limit ≡ t.limit
  pub left : t'.left ≡ t.left - cond (eqb t.limit rank) 1 0
  pub count : t'.count ≡ t.count + cond (stays_now t rank) 1 0
  pub stays : t'.stays ≡ stays_now t rank
