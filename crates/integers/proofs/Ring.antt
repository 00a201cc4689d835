-- A ring solver for ℤ by computation. `E` is the syntax of polynomial expressions, `ev e ρ` the integer that e says at the list ρ of
-- the variables' values, and `norm e` a sorted list of monomials with coefficients. `ring ρ l r tt : ev l ρ ≡ ev r ρ` wherever l and r are equal as polynomials:
-- `zero? (norm (l ⊖ r))` then computes to `true`, and `tt` proves `T true`. Assumes nothing.
use mathlib.Core.Path.{◌≡◌, refl, sym, ap, ◌∙◌, subst}
use mathlib.Core.Bool.{Bool, true, false, ◌&&◌}
use mathlib.Core.List.{List, [], ◌∷◌}
use Prim.Native.Nat.{ℕ, zero, suc, compare, Ordering}
use lib.Dec.{T, ltb, eqb, compare_is_eq, eqb→eq}
use lib.IntN.{ℤ, pos, negsuc, neg_ℤ, ◌+ℤ◌, ◌-ℤ◌, ◌*ℤ◌, +ℤ_comm, +ℤ_assoc, +ℤ_idl, +ℤ_idr, *ℤ_comm, zero-*ℤ, *ℤ-zero, neg_ℤ-+ℤ, +ℤ_invr, -ℤ-+ℤ_cancel}
use Rattle.integers.proofs.Laws.{*ℤ_assoc, *ℤ_distl, *ℤ_distr, *ℤ_negl, *ℤ_negr, *ℤ_idl, *ℤ_idr, +ℤ_swap, *ℤ_swap}

infixl 60 ◌⊕◌ ◌⊖◌
infixl 70 ◌⊗◌
infixr 80 ⊝◌
pub data E : Type 0 where
  v : ℕ → E
  k : ℤ → E
  ◌⊕◌ ◌⊖◌ ◌⊗◌ : E → E → E
  ⊝◌ : E → E

-- the i-th variable's value
abbrev pub val : List ℤ → ℕ → ℤ
val [] i = pos 0
val (x ∷ ρ) zero = x
val (x ∷ ρ) (suc i) = val ρ i

abbrev pub ev : E → List ℤ → ℤ
ev (v i) ρ = val ρ i
ev (k z) ρ = z
ev (a ⊕ b) ρ = ev a ρ +ℤ ev b ρ
ev (a ⊖ b) ρ = ev a ρ -ℤ ev b ρ
ev (a ⊗ b) ρ = ev a ρ *ℤ ev b ρ
ev (⊝ a) ρ = neg_ℤ (ev a ρ)

-- ---- normal forms: a monomial is its variables, sorted; a polynomial is its monomials, sorted, each with a coefficient
abbrev pub Mono : Type 0
Mono = List ℕ

pub data Poly : Type 0 where
  nil : Poly
  term : Mono → ℤ → Poly → Poly

-- the lexicographic order: of two monomials the lesser has the higher power of the first variable in which they differ. A product with a monomial keeps it
abbrev cmp : Mono → Mono → Ordering
cmp [] [] = Ordering.eq
cmp [] (j ∷ n) = Ordering.gt
cmp (i ∷ m) [] = Ordering.lt
cmp (i ∷ m) (j ∷ n) = elim (compare i j) [ Ordering.lt ↦ Ordering.lt | Ordering.eq ↦ cmp m n | Ordering.gt ↦ Ordering.gt ]

-- one more factor
abbrev ins_v : ℕ → Mono → Mono
ins_v i [] = i ∷ []
ins_v i (j ∷ n) = elim (ltb j i) [ true ↦ j ∷ ins_v i n | false ↦ i ∷ j ∷ n ]

abbrev mul_m : Mono → Mono → Mono
mul_m [] n = n
mul_m (i ∷ m) n = ins_v i (mul_m m n)

-- the sum of two sorted polynomials; `add_t m c f` is that with a term before a polynomial whose sum is f
abbrev add_t : Mono → ℤ → (Poly → Poly) → Poly → Poly
add_t m c f nil = term m c (f nil)
add_t m c f (term n d q) = elim (cmp m n) [ Ordering.lt ↦ term m c (f (term n d q)) | Ordering.eq ↦ term n (c +ℤ d) (f q) | Ordering.gt ↦ term n d (add_t m c f q) ]

abbrev add : Poly → Poly → Poly
add nil = λ q. q
add (term m c p) = add_t m c (add p)

-- a term times q, and p times q
abbrev mul_t : Mono → ℤ → Poly → Poly
mul_t m c nil = nil
mul_t m c (term n d q) = term (mul_m m n) (c *ℤ d) (mul_t m c q)

abbrev mul : Poly → Poly → Poly
mul nil q = nil
mul (term m c p) q = add (mul_t m c q) (mul p q)

abbrev neg : Poly → Poly
neg nil = nil
neg (term m c p) = term m (neg_ℤ c) (neg p)

abbrev pub norm : E → Poly
norm (v i) = term (i ∷ []) (pos 1) nil
norm (k z) = term [] z nil
norm (a ⊕ b) = add (norm a) (norm b)
norm (a ⊖ b) = add (norm a) (neg (norm b))
norm (a ⊗ b) = mul (norm a) (norm b)
norm (⊝ a) = neg (norm a)

abbrev is_z : ℤ → Bool
is_z (pos n) = eqb n 0
is_z (negsuc n) = false

abbrev pub zero? : Poly → Bool
zero? nil = true
zero? (term m c p) = is_z c && zero? p

-- ---- they mean what they stand for
lcomm : (a b c : ℤ) → a *ℤ (b *ℤ c) ≡ b *ℤ (a *ℤ c)
lcomm a b c = sym (*ℤ_assoc a b c) ∙ ap (λ (x : ℤ). x *ℤ c) (*ℤ_comm a b) ∙ *ℤ_assoc b a c

lcomm⁺ : (a b c : ℤ) → a +ℤ (b +ℤ c) ≡ b +ℤ (a +ℤ c)
lcomm⁺ a b c = sym (+ℤ_assoc a b c) ∙ ap (λ (x : ℤ). x +ℤ c) (+ℤ_comm a b) ∙ +ℤ_assoc b a c

cmp_eq : (m n : Mono) → T (compare_is_eq (cmp m n)) → m ≡ n
cmp_eq [] [] t = refl
cmp_eq [] (j ∷ n) t = absurd t
cmp_eq (i ∷ m) [] t = absurd t
cmp_eq (i ∷ m) (j ∷ n) t = go (compare i j) (eqb→eq i j) (cmp_eq m n) t
  where
    go : (o : Ordering) → (T (compare_is_eq o) → i ≡ j) → (T (compare_is_eq (cmp m n)) → m ≡ n)
        → T (compare_is_eq (elim o [ Ordering.lt ↦ Ordering.lt | Ordering.eq ↦ cmp m n | Ordering.gt ↦ Ordering.gt ])) → i ∷ m ≡ j ∷ n
    go Ordering.lt f g t = absurd t
    go Ordering.eq f g t = λ d. f tt d ∷ g t d
    go Ordering.gt f g t = absurd t

module _ (ρ : List ℤ) where
  abbrev ev_m : Mono → ℤ
  ev_m [] = pos 1
  ev_m (i ∷ m) = val ρ i *ℤ ev_m m

  abbrev ev_p : Poly → ℤ
  ev_p nil = pos 0
  ev_p (term m c p) = c *ℤ ev_m m +ℤ ev_p p

  ins_v_is : (i : ℕ) (n : Mono) → ev_m (ins_v i n) ≡ val ρ i *ℤ ev_m n
  ins_v_is i [] = refl
  ins_v_is i (j ∷ n) = go (ltb j i) (ins_v_is i n)
    where
      go : (b : Bool) → ev_m (ins_v i n) ≡ val ρ i *ℤ ev_m n → ev_m (elim b [ true ↦ j ∷ ins_v i n | false ↦ i ∷ j ∷ n ]) ≡ val ρ i *ℤ (val ρ j *ℤ ev_m n)
      go true e = ap (λ (x : ℤ). val ρ j *ℤ x) e ∙ lcomm (val ρ j) (val ρ i) (ev_m n)
      go false e = refl

  mul_m_is : (m n : Mono) → ev_m (mul_m m n) ≡ ev_m m *ℤ ev_m n
  mul_m_is [] n = sym (*ℤ_idl (ev_m n))
  mul_m_is (i ∷ m) n = ins_v_is i (mul_m m n) ∙ ap (λ (x : ℤ). val ρ i *ℤ x) (mul_m_is m n) ∙ sym (*ℤ_assoc (val ρ i) (ev_m m) (ev_m n))

  add_t_is : (m : Mono) (c : ℤ) (f : Poly → Poly) (x : ℤ) → ((q : Poly) → ev_p (f q) ≡ x +ℤ ev_p q) → (q : Poly) → ev_p (add_t m c f q) ≡ c *ℤ ev_m m +ℤ x +ℤ ev_p q
  add_t_is m c f x h nil = ap (λ (y : ℤ). c *ℤ ev_m m +ℤ y) (h nil) ∙ sym (+ℤ_assoc (c *ℤ ev_m m) x (pos 0))
  add_t_is m c f x h (term n d q) = go (cmp m n) (cmp_eq m n) (add_t_is m c f x h q)
    where
      go : (o : Ordering) → (T (compare_is_eq o) → m ≡ n) → ev_p (add_t m c f q) ≡ c *ℤ ev_m m +ℤ x +ℤ ev_p q
          → ev_p (elim o [ Ordering.lt ↦ term m c (f (term n d q)) | Ordering.eq ↦ term n (c +ℤ d) (f q) | Ordering.gt ↦ term n d (add_t m c f q) ]) ≡ c *ℤ ev_m m +ℤ x +ℤ (d *ℤ ev_m n +ℤ ev_p q)
      go Ordering.lt g e = ap (λ (y : ℤ). c *ℤ ev_m m +ℤ y) (h (term n d q)) ∙ sym (+ℤ_assoc (c *ℤ ev_m m) x (d *ℤ ev_m n +ℤ ev_p q))
      go Ordering.eq g e = (λ i. *ℤ_distr c d (ev_m n) i +ℤ h q i) ∙ +ℤ_swap (c *ℤ ev_m n) (d *ℤ ev_m n) x (ev_p q)
          ∙ ap (λ (y : Mono). c *ℤ ev_m y +ℤ x +ℤ (d *ℤ ev_m n +ℤ ev_p q)) (sym (g tt))
      go Ordering.gt g e = ap (λ (y : ℤ). d *ℤ ev_m n +ℤ y) e ∙ lcomm⁺ (d *ℤ ev_m n) (c *ℤ ev_m m +ℤ x) (ev_p q)

  add_is : (p q : Poly) → ev_p (add p q) ≡ ev_p p +ℤ ev_p q
  add_is nil q = sym (+ℤ_idl (ev_p q))
  add_is (term m c p) q = add_t_is m c (add p) (ev_p p) (add_is p) q

  mul_t_is : (m : Mono) (c : ℤ) (q : Poly) → ev_p (mul_t m c q) ≡ c *ℤ ev_m m *ℤ ev_p q
  mul_t_is m c nil = sym (*ℤ-zero (c *ℤ ev_m m))
  mul_t_is m c (term n d q) =
      (λ i. c *ℤ d *ℤ mul_m_is m n i +ℤ mul_t_is m c q i)
      ∙ ap (λ (x : ℤ). x +ℤ c *ℤ ev_m m *ℤ ev_p q) (*ℤ_swap c d (ev_m m) (ev_m n))
      ∙ sym (*ℤ_distl (c *ℤ ev_m m) (d *ℤ ev_m n) (ev_p q))

  mul_is : (p q : Poly) → ev_p (mul p q) ≡ ev_p p *ℤ ev_p q
  mul_is nil q = sym (zero-*ℤ (ev_p q))
  mul_is (term m c p) q =
      add_is (mul_t m c q) (mul p q)
      ∙ (λ i. mul_t_is m c q i +ℤ mul_is p q i)
      ∙ sym (*ℤ_distr (c *ℤ ev_m m) (ev_p p) (ev_p q))

  neg_is : (p : Poly) → ev_p (neg p) ≡ neg_ℤ (ev_p p)
  neg_is nil = refl
  neg_is (term m c p) = (λ i. *ℤ_negl c (ev_m m) i +ℤ neg_is p i) ∙ sym (neg_ℤ-+ℤ (c *ℤ ev_m m) (ev_p p))

  norm_is : (e : E) → ev_p (norm e) ≡ ev e ρ
  norm_is (v i) = +ℤ_idr _ ∙ *ℤ_idl _ ∙ *ℤ_idr (val ρ i)
  norm_is (k z) = +ℤ_idr _ ∙ *ℤ_idr z
  norm_is (a ⊕ b) = add_is (norm a) (norm b) ∙ (λ i. norm_is a i +ℤ norm_is b i)
  norm_is (a ⊖ b) = add_is (norm a) (neg (norm b)) ∙ (λ i. norm_is a i +ℤ (neg_is (norm b) ∙ ap neg_ℤ (norm_is b)) i)
  norm_is (a ⊗ b) = mul_is (norm a) (norm b) ∙ (λ i. norm_is a i *ℤ norm_is b i)
  norm_is (⊝ a) = neg_is (norm a) ∙ ap neg_ℤ (norm_is a)

  is_z_is : (c : ℤ) → T (is_z c) → c ≡ pos 0
  is_z_is (pos n) t = ap pos (eqb→eq n 0 t)
  is_z_is (negsuc n) t = absurd t

  zero_is : (p : Poly) → T (zero? p) → ev_p p ≡ pos 0
  zero_is nil t = refl
  zero_is (term m c p) t = go (is_z c) (is_z_is c) (zero_is p) t
    where
      go : (b : Bool) → (T b → c ≡ pos 0) → (T (zero? p) → ev_p p ≡ pos 0) → T (b && zero? p) → c *ℤ ev_m m +ℤ ev_p p ≡ pos 0
      go true f g t = (λ i. f tt i *ℤ ev_m m +ℤ g t i) ∙ +ℤ_idr _ ∙ zero-*ℤ (ev_m m)
      go false f g t = absurd t

  -- THE SOLVER
  pub ring : (l r : E) → T (zero? (norm (l ⊖ r))) → ev l ρ ≡ ev r ρ
  ring l r t = sym (-ℤ-+ℤ_cancel (ev l ρ) (ev r ρ)) ∙ ap (λ (x : ℤ). x +ℤ ev r ρ) (sym (norm_is (l ⊖ r)) ∙ zero_is (norm (l ⊖ r)) t) ∙ +ℤ_idl (ev r ρ)

  -- from an equation a ≡ b that holds of the variables, times c:  l − r is c · (a − b)
  pub ring_from : (l r c a b : E) → ev a ρ ≡ ev b ρ → T (zero? (norm (l ⊖ (r ⊕ c ⊗ (a ⊖ b))))) → ev l ρ ≡ ev r ρ
  ring_from l r c a b h t =
      ring l (r ⊕ c ⊗ (a ⊖ b)) t
      ∙ ap (λ (x : ℤ). ev r ρ +ℤ ev c ρ *ℤ x) (ap (λ (x : ℤ). x -ℤ ev b ρ) h ∙ +ℤ_invr (ev b ρ))
      ∙ ap (λ (x : ℤ). ev r ρ +ℤ x) (*ℤ-zero (ev c ρ))
      ∙ +ℤ_idr (ev r ρ)

-- with the variables bound by a λ:  ring2 (λ a b. (a ⊕ b) ⊗ (a ⊖ b)) (λ a b. a ⊗ a ⊖ b ⊗ b) x y tt
pub ring1 : (l r : E → E) (a : ℤ) → T (zero? (norm (l (v 0) ⊖ r (v 0)))) → ev (l (v 0)) (a ∷ []) ≡ ev (r (v 0)) (a ∷ [])
ring1 l r a = ring (a ∷ []) (l (v 0)) (r (v 0))

pub ring2 : (l r : E → E → E) (a b : ℤ) → T (zero? (norm (l (v 0) (v 1) ⊖ r (v 0) (v 1)))) → ev (l (v 0) (v 1)) (a ∷ b ∷ []) ≡ ev (r (v 0) (v 1)) (a ∷ b ∷ [])
ring2 l r a b = ring (a ∷ b ∷ []) (l (v 0) (v 1)) (r (v 0) (v 1))

pub ring3 : (l r : E → E → E → E) (a b c : ℤ) → T (zero? (norm (l (v 0) (v 1) (v 2) ⊖ r (v 0) (v 1) (v 2)))) → ev (l (v 0) (v 1) (v 2)) (a ∷ b ∷ c ∷ []) ≡ ev (r (v 0) (v 1) (v 2)) (a ∷ b ∷ c ∷ [])
ring3 l r a b c = ring (a ∷ b ∷ c ∷ []) (l (v 0) (v 1) (v 2)) (r (v 0) (v 1) (v 2))

pub ring4 : (l r : E → E → E → E → E) (a b c d : ℤ) → T (zero? (norm (l (v 0) (v 1) (v 2) (v 3) ⊖ r (v 0) (v 1) (v 2) (v 3)))) → ev (l (v 0) (v 1) (v 2) (v 3)) (a ∷ b ∷ c ∷ d ∷ []) ≡ ev (r (v 0) (v 1) (v 2) (v 3)) (a ∷ b ∷ c ∷ d ∷ [])
ring4 l r a b c d = ring (a ∷ b ∷ c ∷ d ∷ []) (l (v 0) (v 1) (v 2) (v 3)) (r (v 0) (v 1) (v 2) (v 3))
