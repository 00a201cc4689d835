-- A reader of a text at a place. Assumes nothing.
use Rattle.std.specs.Prelude.{ℕ, List}
use Rattle.std.specs.Borrow.{Bor}
use Rattle.reader.specs.declared.Reader.{Reader}

abbrev pub standing : Bor (List ℕ) → ℕ → Reader
standing t n = record { text = t; at = n }
