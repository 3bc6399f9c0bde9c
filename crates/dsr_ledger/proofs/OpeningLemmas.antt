-- The opening of files, and the numbers of their summary keys.
use Rattle.dsr_ledger.proofs.Common.{◌≡◌, refl, ℕ, ◌<◌, List, [], ◌∷◌, ◌++◌, length, get_or, true, sym, ◌∙◌, ap, arith, Bool, cond, Option, option_map, None, Some, find, list_any, bytes_eq, bytes_eq-Decides, nat_tests, get_or-map, length-map, find-append, list_any_at, option_or, Summary, SummaryState, is_same_report, has_same_number, summaries_of, found_in, no_sums, nothing_found, state_at, number_at, AreNumbered, named, openings_of, OpeningParts, first_head, FileBooks, Summaries, Ledger, SummaryKey, summary_key_of, summary_key_named, IsNumberedFile, Grows, key_number, summary_key_eq, position, Head}
use Rattle.dsr_ledger.proofs.SortedLemmas.{mapped}

pub same_report-itself : (h : Head) → is_same_report h h ≡ true
same_report-itself h = grind (arith, nat_tests, bytes_eq-Decides h.message_id h.message_id)

-- the first head, with one more opening
pub first_more : (os : List (Option OpeningParts)) (o : OpeningParts) → first_head (os ++ Some o ∷ []) ≡ option_or (first_head os) (Some o.head)
first_more [] o = refl
first_more (None ∷ os) o = first_more os o
first_more (Some x ∷ os) o = refl

-- one more summary
pub found_in-push : (id : List ℕ) (os : List Summary) (s : Summary)
    → found_in (os ++ s ∷ []) [] id ≡ option_or (found_in os [] id) (option_map (λ x. no_sums) (named id s))
found_in-push id os s = grind (arith, find-append (λ (x : Summary). bytes_eq id x.id) os (s ∷ []))

-- the sums of an added summary
pub sums_added : (o : Option SummaryState) (n : ℕ) (p : Option Summary)
    → option_map (λ s. s.sums) (option_or o (option_map (λ x. nothing_found n) p)) ≡ option_or (option_map (λ s. s.sums) o) (option_map (λ x. no_sums) p)
sums_added o n p = grind arith

-- the number of file i is taken
pub taken_here : (h : Head) (fs : List FileBooks) (i : ℕ) (f : FileBooks) → i < length fs → f ≡ get_or fs i f → has_same_number h f.opening ≡ true
    → list_any (has_same_number h) (openings_of fs) ≡ true
taken_here h fs i f below is t =
    let opening = λ (x : FileBooks). x.opening in
    list_any_at (has_same_number h) (openings_of fs) i f.opening (omega (arith, length-map fs opening))
    (ap (has_same_number h) (get_or-map opening fs i f f.opening below ∙ ap opening (sym is)) ∙ t)

grows_at : {K : Type 0} (f g : K → Option ℕ) (k : Option K) (n : Option ℕ) → Grows f g → option_map f k ≡ option_map Some n → option_map g k ≡ option_map Some n
grows_at f g k n grows h = grind (arith, grows)

pub numbered_grows : (a b : Ledger) (place : List ℕ → Option SummaryKey) (m : Summaries) → Grows (key_number a) (key_number b) → AreNumbered a place m
    → AreNumbered b place m
numbered_grows a b place m grows h id = grows_at (key_number a) (key_number b) (place id) (number_at m id) grows (h id)

pub same_keys : (a b : Ledger) → b.summary_keys ≡ a.summary_keys → Grows (key_number a) (key_number b)
same_keys a b same k i e = ap (λ ks. position (summary_key_eq k) ks.keys) same ∙ e

-- the key of a summary whose state has this number
pub key_here : (a b : Ledger) (place : List ℕ → Option SummaryKey) (m : Summaries) (id : List ℕ) (n : ℕ) → b.summary_keys ≡ a.summary_keys
    → AreNumbered a place m → number_at m id ≡ Some n → (key : SummaryKey) × (place id ≡ Some key) × (key_number b key ≡ Some n)
key_here a b place m id n same h at =
    mapped (key_number b) (place id) (Some n) (numbered_grows a b place m (same_keys a b same) h id ∙ ap (option_map Some) at)

-- no summaries
pub none_numbered : (ledger : Ledger) (m : Summaries) → ((id : List ℕ) → state_at m id ≡ None) → AreNumbered ledger (summary_key_named []) m
none_numbered ledger m none id = sym (ap (λ o. option_map Some (option_map (λ s. s.key) o)) (none id))

-- one more summary
one_more : {K X Y : Type 0} (f g : K → Option ℕ) (key : X → K) (number : Y → ℕ) (x : X) (y : Y) (b : Bool) (p : Option X) (o : Option Y) → Grows f g
    → g (key x) ≡ Some (number y) → option_map f (option_map key p) ≡ option_map Some (option_map number o)
    → option_map g (option_map key (option_or p (cond b (Some x) None)))
    ≡ option_map Some (option_map number (option_or o (option_map (λ z. y) (cond b (Some x) None))))
one_more f g key number x y b p o grows is h = grind (arith, grows)

pub numbered_push : (a b : Ledger) (n : ℕ) (ss : List Summary) (s : Summary) (old new : Summaries) → Grows (key_number a) (key_number b)
    → key_number b (summary_key_of s) ≡ Some n
    → ((id : List ℕ) → state_at new id ≡ option_or (state_at old id) (option_map (λ x. nothing_found n) (named id s)))
    → AreNumbered a (summary_key_named ss) old → AreNumbered b (summary_key_named (ss ++ s ∷ [])) new
numbered_push a b n ss s old new grows is added h id =
    let number = λ (x : SummaryState). x.key in
    ap (λ p. option_map (key_number b) (option_map summary_key_of p)) (find-append (λ (x : Summary). bytes_eq id x.id) ss (s ∷ []))
    ∙ one_more (key_number a) (key_number b) summary_key_of number s (nothing_found n) (bytes_eq id s.id) (find (λ x. bytes_eq id x.id) ss) (state_at old id)
    grows is (h id)
    ∙ sym (ap (λ o. option_map Some (option_map number o)) (added id))

-- after a block
stays : (a b : Ledger) (f g : FileBooks) → b.summary_keys ≡ a.summary_keys → g.opening ≡ f.opening
    → ((id : List ℕ) → number_at g.summaries id ≡ number_at f.summaries id) → IsNumberedFile a f → IsNumberedFile b g
stays a b f g same opening numbers h id =
    ap (λ o. option_map (key_number b) (summary_key_named (summaries_of o) id)) opening
    ∙ numbered_grows a b (summary_key_named (summaries_of f.opening)) f.summaries (same_keys a b same) h id ∙ sym (ap (option_map Some) (numbers id))
