-- A number that is given through a reference: a refused call leaves it as it was. Assumes nothing.
use Rattle.std.specs.Prelude.{◌≡◌, ℕ}
use Rattle.refusals.specs.Refusal.{after_call}

-- old is the number before the call, new the number after it, n the number that the call is answered with.
abbrev pub Told : ℕ → ℕ → ℕ → Type 0
Told n old new = new ≡ after_call n new old
