-- What holds of each item of a list, and sums over lists.
use Rattle.dsr_ledger.proofs.Common.{true≢false, ◌≡◌, ℕ, List, [], ◌∷◌, ◌++◌, length, ◌≤◌, ◌*◌, sym, ◌∙◌, ap, arith, get_or, length-append, Bool, true, false, cond, suc, set, refl, Option, None, Some, ℤ, pos, ◌+ℤ◌, sum_by, unsigned_abs, filter, map, nat_lt, ◌||◌, AllByRecursion, flat_map, list_any, Contains, ints, All-from_recursion, All-filter, All-map, All-set, All-weaker, recursion_from_All, sum_by-cons, sum_by-le, length-filter, count_by-le-length, int_sum_by, lt-ltb, get_or-map, length-map}

pub add-assoc : (a b c : ℤ) → (a +ℤ b) +ℤ c ≡ a +ℤ (b +ℤ c)
add-assoc a b c = omega (arith, ints)

pub zero-add : (a : ℤ) → pos 0 +ℤ a ≡ a
zero-add a = omega (arith, ints)

pub add-zero : (a : ℤ) → a +ℤ pos 0 ≡ a
add-zero a = omega (arith, ints)

module _ {X : Type 0} (f : X → ℤ) where
  pub int_sum_by-append : (xs ys : List X) → int_sum_by f (xs ++ ys) ≡ int_sum_by f xs +ℤ int_sum_by f ys
  int_sum_by-append [] ys = sym (zero-add (int_sum_by f ys))
  int_sum_by-append (x ∷ xs) ys =
      ap (λ n. f x +ℤ n) (int_sum_by-append xs ys) ∙ sym (add-assoc (f x) (int_sum_by f xs) (int_sum_by f ys))

  pub abs-sum : (xs : List X) → unsigned_abs (int_sum_by f xs) ≤ sum_by (λ x. unsigned_abs (f x)) xs
  abs-sum [] = omega arith
  abs-sum (x ∷ xs) = omega (arith, ints, abs-sum xs, sum_by-cons (λ x. unsigned_abs (f x)) x xs)

  -- a sum of n terms, each at most m away from zero
  pub abs-int_sum_by : (m : ℕ) (xs : List X) → AllByRecursion (λ x. unsigned_abs (f x) ≤ m) xs → unsigned_abs (int_sum_by f xs) ≤ length xs * m
  abs-int_sum_by m xs h =
      omega (arith, abs-sum xs, sum_by-le (λ x. unsigned_abs (f x)) m xs (All-from_recursion (λ x. unsigned_abs (f x) ≤ m) xs h))

module _ {X : Type 0} (P : X → Type 0) where
  pub each_append : (xs ys : List X) → AllByRecursion P xs → AllByRecursion P ys → AllByRecursion P (xs ++ ys)
  each_append [] ys h k = k
  each_append (x ∷ xs) ys h k = (h.0, each_append xs ys h.1 k)

  pub each_set : (xs : List X) (k : ℕ) (y : X) → AllByRecursion P xs → P y → AllByRecursion P (set xs k y)
  each_set xs k y h one = recursion_from_All P (set xs k y) (All-set P xs k y one (All-from_recursion P xs h))

  pub each_filter : (p : X → Bool) (xs : List X) → AllByRecursion P xs → AllByRecursion P (filter p xs)
  each_filter p xs h = recursion_from_All P (filter p xs) (All-filter p P xs (All-from_recursion P xs h))

  pub each_of : ((x : X) → P x) → (xs : List X) → AllByRecursion P xs
  each_of f xs = recursion_from_All P xs (λ i d below. f (get_or xs i d))

  pub each_flat : {Y : Type 0} (f : Y → List X) (ys : List Y) → AllByRecursion (λ y. AllByRecursion P (f y)) ys → AllByRecursion P (flat_map f ys)
  each_flat f [] h = tt
  each_flat f (y ∷ ys) h = each_append (f y) (flat_map f ys) h.0 (each_flat f ys h.1)

  pub each_map : {Y : Type 0} (f : Y → X) (ys : List Y) → AllByRecursion (λ y. P (f y)) ys → AllByRecursion P (map f ys)
  each_map f ys h = recursion_from_All P (map f ys) (All-map P f ys (All-from_recursion (λ y. P (f y)) ys h))

  -- at most n items, and P holds of each
  abbrev pub AreFew : ℕ → List X → Type 0
  AreFew n xs = (length xs ≤ n) × AllByRecursion P xs

  pub few_flat : {Y : Type 0} (m : ℕ) (f : Y → List X) (ys : List Y) → AllByRecursion (λ y. AreFew m (f y)) ys → AreFew (length ys * m) (flat_map f ys)
  few_flat m f [] h = (omega arith, tt)
  few_flat m f (y ∷ ys) h =
      let rest = few_flat m f ys h.1 in
      (omega (arith, rest.0, h.0.0, length-append (f y) (flat_map f ys)), each_append (f y) (flat_map f ys) h.0.1 rest.1)

pub each_weaker : {X : Type 0} (P Q : X → Type 0) → ((x : X) → P x → Q x) → (xs : List X) → AllByRecursion P xs → AllByRecursion Q xs
each_weaker P Q f xs h = recursion_from_All Q xs (All-weaker P Q f xs (All-from_recursion P xs h))

pub contains_map : {X Y : Type 0} (f : X → Y) (xs : List X) (x : X) → Contains xs x → Contains (map f xs) (f x)
contains_map f xs x c = (c.0, omega (arith, c.1, length-map xs f), get_or-map f xs c.0 x (f x) c.1 ∙ ap f c.2)

pub fewer : {X : Type 0} (p : X → Bool) (xs : List X) → length (filter p xs) ≤ length xs
fewer p xs = omega (arith, length-filter p xs, count_by-le-length p xs)

-- whether one passes, by how many do
pub some_pass : {X Y : Type 0} (p : X → Bool) (q : Y → Bool) (f : X → Y) → ((x : X) → p x ≡ q (f x)) → (xs : List X)
    → nat_lt 0 (length (filter p xs)) ≡ list_any q (map f xs)
some_pass p q f same [] = refl
some_pass p q f same (x ∷ xs) =
    elim (p x) as (λ b. nat_lt 0 (length (cond b (x ∷ filter p xs) (filter p xs))) ≡ (b || list_any q (map f xs))) [
      | true ↦ lt-ltb 0 (suc (length (filter p xs))) (omega arith)
      | false ↦ some_pass p q f same xs
    ]
    ∙ ap (λ b. b || list_any q (map f xs)) (same x)

-- an option that is not None, by what a test says of it
pub some_if : {A : Type 0} (f : Option A → Bool) (o : Option A) → f None ≡ false → f o ≡ true → (x : A) × (o ≡ Some x)
some_if f None none h = absurd (true≢false (sym h ∙ none))
some_if f (Some x) none h = (x, refl)
