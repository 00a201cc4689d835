-- Two runs of columns, of the left strip and of the right one behind it, are a pair. Assumes nothing.
use mathlib.Core.Path.{◌≡◌, refl, sym, ap, ◌∙◌, subst}
use mathlib.Core.List.{List}
use Prim.Native.Nat.{ℕ, ◌+◌, ◌*◌, ◌<◌, ◌≤◌}
use native.Mathlib.Omega.{arith}
use native.Mathlib.Nat.{mul-le-mul_right}
use lib.Arith.{digits_lt}
use lib.IntN.{ℤ, pos}
use lib.ListN.{length, get_or}
use Rattle.integers.proofs.Index.{same_place}
use Rattle.slices.specs.Stores.{Room, columns}
use Rattle.slices.proofs.Stores.{length_columns, columns_in, columns_out, room_at}
use Rattle.pyramid.specs.Slices.{image_of}
use Rattle.strips.specs.Join.{beside}
use Rattle.strips.proofs.Beside.{by_part, beside_left, beside_right}
use Rattle.joining.specs.Pairs.{PairRoom, Paired}

-- the place where columns begin
pub place_below : (h t c m n o : ℕ) → 0 < n → t + m ≤ h → (c + n) * h ≤ o → c * h + t ≤ o
place_below h t c m n o s a b = omega (arith, mul-le-mul_right h s, two)
  where
    two : (c + n) * h ≡ c * h + n * h
    two = omega arith

-- what `put_pair` asks for, of its places and of its calls
module _ (h t c m n l r o : ℕ) (R : PairRoom h t c m n l r o) where
  half_out : (c + c + n) * h ≤ o
  half_out = omega (arith, R.out, two)
    where
      two : (c + c + (n + n)) * h ≡ (c + c + n) * h + n * h
      two = omega arith

  all_out : (c + c + n + n) * h ≤ o
  all_out = omega (arith, R.out, same)
    where
      same : (c + c + (n + n)) * h ≡ (c + c + n + n) * h
      same = omega arith

  twice : (c + c) * h + t ≡ c * h + (c * h + t)
  twice = omega arith

  behind : (c + c + n) * h + t ≡ (c * h + (c * h + t)) + n * h
  behind = omega arith

  pub from_below : c * h + t ≤ l
  from_below = place_below h t c m n l R.some R.tall R.left

  pub to_below : (c * h + (c * h + t)) + n * h ≤ o
  to_below = subst (λ (i : ℕ). i ≤ o) behind (place_below h t (c + c + n) m n o R.some R.tall all_out)

  pub asks_left : (m ≤ h) × Room h m n (c * h + t) l × Room h m n (c * h + (c * h + t)) o
  asks_left = let a = R.tall in (omega arith, room_at h t c m n l R.tall R.left, subst (λ (i : ℕ). Room h m n i o) twice (room_at h t (c + c) m n o R.tall half_out))

  pub asks_right : (m ≤ h) × Room h m n (c * h + t) r × Room h m n ((c * h + (c * h + t)) + n * h) o
  asks_right =
      let a = R.tall in
      (omega arith, room_at h t c m n r R.tall R.right, subst (λ (i : ℕ). Room h m n i o) behind (room_at h t (c + c + n) m n o R.tall all_out))

-- the columns of the left strip are moved
module _ (h t c m n : ℕ) (p q old : List ℤ) {mid : List ℤ} (R : PairRoom h t c m n (length p) (length q) (length old)) (a : mid ≡ columns h m n p (c * h + t) (c * h + (c * h + t)) old) where
  abbrev from : ℕ
  from = c * h + t

  abbrev here : ℕ
  here = c * h + (c * h + t)

  abbrev there : ℕ
  there = (c * h + (c * h + t)) + n * h

  small : m ≤ h
  small = (asks_left h t c m n (length p) (length q) (length old) R).0

  pub mid_long : length mid ≡ length old
  mid_long = ap length a ∙ length_columns p h m small from here old n

  left_in : (y x : ℕ) → y < m → x < n → get_or mid (here + (x * h + y)) (pos 0) ≡ get_or p (from + (x * h + y)) (pos 0)
  left_in y x k l = ap (λ (z : List ℤ). get_or z (here + (x * h + y)) (pos 0)) a ∙ columns_in p h m small from here old n y x (asks_left h t c m n (length p) (length q) (length old) R).2 k l

  left_out : (k : ℕ) → ((y x : ℕ) → y < m → x < n → k ≡ here + (x * h + y) → ⊥) → get_or mid k (pos 0) ≡ get_or old k (pos 0)
  left_out k outside = ap (λ (z : List ℤ). get_or z k (pos 0)) a ∙ columns_out p h m small from here old n k outside

  -- then those of the right strip
  module _ {new : List ℤ} (b : new ≡ columns h m n q (c * h + t) ((c * h + (c * h + t)) + n * h) mid) where
    right-in : (y x : ℕ) → y < m → x < n → get_or new (there + (x * h + y)) (pos 0) ≡ get_or q (from + (x * h + y)) (pos 0)
    right-in y x k l =
        ap (λ (z : List ℤ). get_or z (there + (x * h + y)) (pos 0)) b
        ∙ columns_in q h m small from there mid n y x (λ x g. omega (arith, (asks_right h t c m n (length p) (length q) (length old) R).2 x g, mid_long)) k l

    right-out : (k : ℕ) → ((y x : ℕ) → y < m → x < n → k ≡ there + (x * h + y) → ⊥) → get_or new k (pos 0) ≡ get_or mid k (pos 0)
    right-out k outside = ap (λ (z : List ℤ). get_or z k (pos 0)) b ∙ columns_out q h m small from there mid n k outside

    -- the place of an entry of the rectangle
    place : (y x : ℕ) → (c + x) * h + (t + y) ≡ c * h + t + (x * h + y)
    place y x = omega arith

    place-left : (y x : ℕ) → (c + c + x) * h + (t + y) ≡ c * h + (c * h + t) + (x * h + y)
    place-left y x = omega arith

    place-right : (y x : ℕ) → (c + c + (n + x)) * h + (t + y) ≡ (c * h + (c * h + t)) + n * h + (x * h + y)
    place-right y x = omega arith

    pair_left : (y x : ℕ) → y < m → x < n → image_of h new (t + y) (c + c + x) ≡ image_of h p (t + y) (c + x)
    pair_left y x k l =
        ap (λ (i : ℕ). get_or new i (pos 0)) (place-left y x)
        ∙ right-out (c * h + (c * h + t) + (x * h + y)) (λ v u i j e. let d : x * h + y < n * h = digits_lt l (omega (arith, small)) in omega arith)
        ∙ left_in y x k l
        ∙ ap (λ (i : ℕ). get_or p i (pos 0)) (sym (place y x))

    pair-right : (y x : ℕ) → y < m → x < n → image_of h new (t + y) (c + c + (n + x)) ≡ image_of h q (t + y) (c + x)
    pair-right y x k l =
        ap (λ (i : ℕ). get_or new i (pos 0)) (place-right y x)
        ∙ right-in y x k l
        ∙ ap (λ (i : ℕ). get_or q i (pos 0)) (sym (place y x))

    pub paired : Paired h t c m n p q old new
    paired = record {
      long = ap length b ∙ length_columns q h m small from there mid n ∙ mid_long;
      pair = λ y x k l.
          by_part n (λ x. image_of h new (t + y) (c + c + x) ≡ beside n (λ y x. image_of h p y (c + x)) (λ y x. image_of h q y (c + x)) (t + y) x)
          (λ x g. pair_left y x k g ∙ sym (beside_left n (λ y x. image_of h p y (c + x)) (λ y x. image_of h q y (c + x)) (t + y) x g))
          (λ x g. pair-right y x k g ∙ sym (beside_right n (λ y x. image_of h p y (c + x)) (λ y x. image_of h q y (c + x)) (t + y) (n + x) x refl))
          x l;
      other = λ y x k outside.
          right-out (x * h + y)
          (λ v u i j e.
          let s = same_place h y x (t + v) (c + c + (n + u)) k (omega (arith, R.tall)) (e ∙ sym (place-right v u)) in
          outside (omega (arith, s.0)) (omega (arith, s.0)) (omega (arith, s.1)) (omega (arith, s.1)))
          ∙ left_out (x * h + y)
          (λ v u i j e.
          let s = same_place h y x (t + v) (c + c + u) k (omega (arith, R.tall)) (e ∙ sym (place-left v u)) in
          outside (omega (arith, s.0)) (omega (arith, s.0)) (omega (arith, s.1)) (omega (arith, s.1)));
    }
