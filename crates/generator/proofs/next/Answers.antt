-- `generator::next` meets its contract. Assumes nothing.
use Rattle.std.proofs.Common.{ℕ, ◌+◌, ◌*◌, ◌%◌, ◌^◌, ap, ◌∙◌}
use native.Mathlib.Nat.{mod-add-mod}
use Rattle.generator.proofs.next.Goals as goal

pub returns : goal.returns
returns c =
    c.wrapping_add_u32.ensures.value
    ∙ ap (λ (n : ℕ). (n + 1013904223) % 2 ^ 32) c.wrapping_mul.ensures
    ∙ mod-add-mod (c.args.s * 1664525) (2 ^ 32) 1013904223
