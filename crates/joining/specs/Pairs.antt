-- A rectangle of both strips side by side in the joined plane. All three planes have the height h and are stored down columns. Assumes nothing.
use Rattle.std.specs.Prelude.{◌≡◌, List, ℕ, ◌+◌, ◌*◌, ◌<◌, ◌≤◌, ℤ, length}
use Rattle.pyramid.specs.Plane.{Fits, all_blocks}
use Rattle.pyramid.specs.Slices.{image_of}
use Rattle.strips.specs.Join.{beside}

-- Rows t to t + m of n columns from c on are in strips of l and r entries; twice as many from c + c on are in a joined plane of o entries.
pub record PairRoom (h t c m n l r o : ℕ) : Type 0 where
  pub some : 0 < n
  pub tall : t + m ≤ h
  pub left : (c + n) * h ≤ l
  pub right : (c + n) * h ≤ r
  pub out : (c + c + (n + n)) * h ≤ o

-- `new` is `old` with that rectangle of the strips p and q side by side.
pub record Paired (h t c m n : ℕ) (p q old new : List ℤ) : Type 0 where
  pub long : length new ≡ length old
  pub pair : (y x : ℕ) → y < m → x < n + n → image_of h new (t + y) (c + c + x) ≡ beside n (λ y x. image_of h p y (c + x)) (λ y x. image_of h q y (c + x)) (t + y) x
  pub other : (y x : ℕ) → y < h → (t ≤ y → y < t + m → c + c ≤ x → x < c + c + (n + n) → ⊥) → image_of h new y x ≡ image_of h old y x

-- Two strips of R levels, and a plane for both.
pub record PlaneRoom (R h w l r o : ℕ) : Type 0 where
  pub fits : Fits R h w
  pub some : 0 < w
  pub left : l ≡ w * h
  pub right : r ≡ w * h
  pub out : o ≡ (w + w) * h

-- Their coverings, and a list for both.
pub record CoverRoom (R h w l r o : ℕ) : Type 0 where
  pub fits : Fits R h w
  pub left : l ≡ all_blocks R h w
  pub right : r ≡ all_blocks R h w
  pub out : o ≡ all_blocks R h (w + w)
