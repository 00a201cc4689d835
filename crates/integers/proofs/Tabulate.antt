-- `tabulate n f`: its length, its entries, and a function of each. Assumes nothing.
use mathlib.Core.Path.{◌≡◌, refl, sym, ap, ◌∙◌}
use mathlib.Core.List.{◌∷◌, ◌++◌, map}
use Prim.Native.Nat.{ℕ, zero, suc, ◌+◌, ◌<◌}
use native.Mathlib.Nat.{zero-add, suc-add}
use native.Mathlib.Omega.{arith}
use lib.ListN.{length, get_or}
use Rattle.integers.specs.Lists.{tabulate}

pub length_tabulate : {A : Type 0} (n : ℕ) (f : ℕ → A) → length (tabulate n f) ≡ n
length_tabulate zero f = refl
length_tabulate (suc n) f = ap suc (length_tabulate n (λ k. f (suc k)))

pub get_d_tabulate : {A : Type 0} (n : ℕ) (f : ℕ → A) (d : A) (i : ℕ) → i < n → get_or (tabulate n f) i d ≡ f i
get_d_tabulate zero f d i h = absurd (omega arith)
get_d_tabulate (suc n) f d zero h = refl
get_d_tabulate (suc n) f d (suc i) h = get_d_tabulate n (λ k. f (suc k)) d i (omega arith)

-- the entries up to m and those behind them
pub tabulate_add : {A : Type 0} (m n : ℕ) (f : ℕ → A) → tabulate (m + n) f ≡ tabulate m f ++ tabulate n (λ k. f (m + k))
tabulate_add zero n f = (λ i. tabulate (zero-add n i) (λ k. f (sym (zero-add k) i)))
tabulate_add (suc m) n f =
    (λ i. tabulate (suc-add m n i) f)
    ∙ ap (λ l. f 0 ∷ l) (tabulate_add m n (λ k. f (suc k)) ∙ (λ i. tabulate m (λ k. f (suc k)) ++ tabulate n (λ k. f (sym (suc-add m k) i))))

pub tabulate_same : {A : Type 0} (n : ℕ) (f g : ℕ → A) → ((k : ℕ) → k < n → f k ≡ g k) → tabulate n f ≡ tabulate n g
tabulate_same zero f g e = refl
tabulate_same (suc n) f g e = λ i. e 0 (omega arith) i ∷ tabulate_same n (λ k. f (suc k)) (λ k. g (suc k)) (λ k h. e (suc k) (omega arith)) i

pub map_tabulate : {A B : Type 0} (g : A → B) (n : ℕ) (f : ℕ → A) → map g (tabulate n f) ≡ tabulate n (λ k. g (f k))
map_tabulate g zero f = refl
map_tabulate g (suc n) f = ap (λ l. g (f 0) ∷ l) (map_tabulate g n (λ k. f (suc k)))
