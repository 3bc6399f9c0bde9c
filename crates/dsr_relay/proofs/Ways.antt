-- Each step keeps the rule of the way by which memory comes back.
use Rattle.dsr_relay.proofs.Common.{◌≡◌, ◌≢◌, ℕ, zero, suc, ◌+◌, List, [], ◌∷◌, ◌++◌, length, set, ◌⊎◌, inl, inr, refl, sym, ap, ◌∙◌, subst, ⊎_elim, arith, Pushes, Pops, Forks}
use mathlib.Core.Option.{some, some-ne-none, some-injective}
use lib.ListN.{get_elem?}
use Rattle.atomic_table.proofs.Lists.{at_set}
use Rattle.arrayvec.specs.ArrayVec.{array_vec_len}
use Rattle.dsr_relay.specs.declared.way.Count.{Count}
use Rattle.dsr_relay.specs.declared.way.Count.TheVariants.{Fresh, Gave, Got}
use Rattle.dsr_relay.specs.layer.Way.{IsTrueCount}
use Rattle.dsr_relay.specs.layer.Way.{Batches, batches_in, AreCounted, given_of, got_of, Gives, Gets}

batches_in-push : (queue : List Batches) (x : Batches) → batches_in (queue ++ x ∷ []) ≡ batches_in queue + array_vec_len x
batches_in-push [] x = omega arith
batches_in-push (y ∷ queue) x = omega (arith, batches_in-push queue x)

module _ (giver getter given got : ℕ) where
  knows_set : (views : List Count) (pass : ℕ) (w : Count)
      → ((j : ℕ) (u : Count) → j ≢ pass → get_elem? views j ≡ some u → IsTrueCount giver getter given got j u)
      → IsTrueCount giver getter given got pass w
      → (j : ℕ) (u : Count) → get_elem? (set views pass w) j ≡ some u → IsTrueCount giver getter given got j u
  knows_set views pass w others mine j u e =
      ⊎_elim
      (λ (x : (j ≡ pass) × (w ≡ u)). subst (λ (y : ℕ × Count). IsTrueCount giver getter given got y.0 y.1) (λ i. (sym x.0 i, x.1 i)) mine)
      (λ (x : (j ≢ pass) × (get_elem? views j ≡ some u)). others j u x.0 x.1)
      (at_set views pass j w u e)

  -- what the other pass knows stays true when more are given back
  others_given : (more j : ℕ) (u : Count) → j ≢ giver → IsTrueCount giver getter given got j u → IsTrueCount giver getter more got j u
  others_given more j Fresh apart k = absurd (apart k.0)
  others_given more j (Gave n) apart k = absurd (apart k.0)
  others_given more j (Got n) apart k = k

  -- and when more came back
  others_got : (more j : ℕ) (u : Count) → j ≢ getter → IsTrueCount giver getter given got j u → IsTrueCount giver getter given more j u
  others_got more j Fresh apart k = absurd (apart k.1)
  others_got more j (Gave n) apart k = k
  others_got more j (Got n) apart k = absurd (apart k.0)

  -- and when one pass was both ends, whatever the ends are then
  others_parted : (giver' getter' j : ℕ) (u : Count) → j ≢ giver → j ≢ getter → IsTrueCount giver getter given got j u
      → IsTrueCount giver' getter' given got j u
  others_parted giver' getter' j Fresh apart away k = absurd (apart k.0)
  others_parted giver' getter' j (Gave n) apart away k = absurd (apart k.0)
  others_parted giver' getter' j (Got n) apart away k = absurd (away k.0)

pub begins : AreCounted [] (Fresh ∷ [])
begins = record { giver = 0; getter = 0; given = 0; got = 0; all = refl; knows = one }
  where
    one : (pass : ℕ) (v : Count) → get_elem? (Fresh ∷ []) pass ≡ some v → IsTrueCount 0 0 0 0 pass v
    one zero v e = subst (IsTrueCount 0 0 0 0 0) (some-injective _ _ e) (refl, refl, refl)
    one (suc pass) v e = absurd (some-ne-none v (sym e))

gives : (n pass count : ℕ) (x : Batches) → Pushes AreCounted n pass (Gave count) x (Gives (Gave count) x)
gives n pass count x queue views room h at =
    let mine : IsTrueCount h.giver h.getter h.given h.got pass (Gave count) = h.knows pass (Gave count) at in
    let more = h.given + array_vec_len x in (
      Gave (count + array_vec_len x),
      record {
        giver = h.giver;
        getter = h.getter;
        given = more;
        got = h.got;
        all = omega (arith, h.all, batches_in-push queue x);
        knows = knows_set h.giver h.getter more h.got views pass (Gave (count + array_vec_len x))
            (λ j u apart e. others_given h.giver h.getter h.given h.got more j u (λ j_is. apart (j_is ∙ sym mine.0)) (h.knows j u e))
            (mine.0, ap (λ m. m + array_vec_len x) mine.1);
      },
      refl,
    )

gets : (pass count : ℕ) → Pops AreCounted pass (Got count) (Gets (Got count))
gets pass count x queue views h at =
    let mine : IsTrueCount h.giver h.getter h.given h.got pass (Got count) = h.knows pass (Got count) at in
    let more = h.got + array_vec_len x in (
      Got (count + array_vec_len x),
      record {
        giver = h.giver;
        getter = h.getter;
        given = h.given;
        got = more;
        all = omega (arith, h.all);
        knows = knows_set h.giver h.getter h.given more views pass (Got (count + array_vec_len x))
            (λ j u apart e. others_got h.giver h.getter h.given h.got more j u (λ j_is. apart (j_is ∙ sym mine.0)) (h.knows j u e))
            (mine.0, ap (λ m. m + array_vec_len x) mine.1);
      },
      refl,
    )

at_end : (l : List Count) (a b : Count) (j : ℕ) → get_elem? (l ++ a ∷ []) j ≡ some b → (get_elem? l j ≡ some b) ⊎ ((j ≡ length l) × (a ≡ b))
at_end [] a b zero e = inr (refl, some-injective a b e)
at_end [] a b (suc j) e = absurd (some-ne-none b (sym e))
at_end (x ∷ xs) a b zero e = inl e
at_end (x ∷ xs) a b (suc j) e = ⊎_elim inl (λ t. inr (ap suc t.0, t.1)) (at_end xs a b j e)

parts : (pass : ℕ) → Forks AreCounted pass Fresh (Gave 0) (Got 0)
parts pass queue views h at =
    let mine : IsTrueCount h.giver h.getter h.given h.got pass Fresh = h.knows pass Fresh at in
    let vs : List Count = set views pass (Gave 0) in
    let none : 0 ≡ h.got = omega (arith, h.all, mine.2) in
    record {
      giver = pass;
      getter = length vs;
      given = h.given;
      got = h.got;
      all = h.all;
      knows = λ j u e. ⊎_elim
          (λ was. knows_set pass (length vs) h.given h.got views pass (Gave 0)
          (λ i w apart there. others_parted h.giver h.getter h.given h.got pass (length vs) i w
          (λ i_is. apart (i_is ∙ sym mine.0)) (λ i_is. apart (i_is ∙ sym mine.1)) (h.knows i w there))
          (refl, sym mine.2) j u was)
          (λ (last : (j ≡ length vs) × (Got 0 ≡ u)). subst (IsTrueCount pass (length vs) h.given h.got j) last.1 (last.0, none))
          (at_end vs (Got 0) u j e);
    }

-- the steps, if the view is known
pub gives_as : (n pass : ℕ) (v : Count) (x : Batches) → v ≡ Gave (given_of v) → Pushes AreCounted n pass v x (Gives v x)
gives_as n pass v x is = subst (λ (u : Count). Pushes AreCounted n pass u x (Gives u x)) (sym is) (gives n pass (given_of v) x)

pub gets_as : (pass : ℕ) (v : Count) → v ≡ Got (got_of v) → Pops AreCounted pass v (Gets v)
gets_as pass v is = subst (λ (u : Count). Pops AreCounted pass u (Gets u)) (sym is) (gets pass (got_of v))

pub parts_as : (pass : ℕ) (v : Count) → v ≡ Fresh → Forks AreCounted pass v (Gave 0) (Got 0)
parts_as pass v is = subst (λ (u : Count). Forks AreCounted pass u (Gave 0) (Got 0)) (sym is) (parts pass)

-- what an end knows after a step
pub gave : (v w : Count) (x : Batches) → v ≡ Gave (given_of v) → Gives v x w → w ≡ Gave (given_of v + array_vec_len x)
gave v w x is h = subst (λ (u : Count). Gives u x w) is h

pub got : (v w : Count) (x : Batches) → v ≡ Got (got_of v) → Gets v x w → w ≡ Got (got_of v + array_vec_len x)
got v w x is h = subst (λ (u : Count). Gets u x w) is h

pub gave_again : (w : Count) (n : ℕ) → w ≡ Gave n → w ≡ Gave (given_of w)
gave_again w n e = e ∙ ap (λ u. Gave (given_of u)) (sym e)

pub got_again : (w : Count) (n : ℕ) → w ≡ Got n → w ≡ Got (got_of w)
got_again w n e = e ∙ ap (λ u. Got (got_of u)) (sym e)
