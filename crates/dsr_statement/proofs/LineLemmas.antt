-- What is put, line by line.
use Rattle.dsr_statement.proofs.Common.{◌≡◌, ℕ, ◌+◌, ◌<◌, ◌≤◌, ◌++◌, ◌∙◌, LedgerLine, List, [], ◌∷◌, length, map, take, get_or, suc, sym, subst, ap, refl, arith, append_assoc, flat_map, append-nil, take_all, take_more, length-take-le, flat_map-append, Written, Puts, Pieces}
use Rattle.std.proofs.lemmas.List.Concat.{flat_map-cons}
use Rattle.dsr_ledger.specs.meaning.Laws.{key_of_line}
use Rattle.dsr_ledger.specs.declared.report.FileLine.{FileLine}
use Rattle.dsr_ledger.specs.declared.report.PartyLine.{PartyLine}
use Rattle.dsr_ledger.specs.declared.report.Difference.{Difference}
use Rattle.dsr_ledger.specs.declared.report.Reject.{Reject}
use Rattle.dsr_ledger.specs.declared.report.Report.{Report}
use Rattle.dsr_statement.specs.declared.line.Line.{Line}
use Rattle.dsr_statement.specs.declared.line.Line.TheVariants as lines
use Rattle.dsr_statement.specs.meaning.Lines.{line_bytes}
use Rattle.dsr_statement.specs.meaning.Statement.{files_from, head_of, lines_of_ledger, statement_lines, text_of}
use Rattle.dsr_statement.specs.inner.Pieces.{both_put}
use Rattle.dsr_statement.specs.inner.Rows.{sums_bytes, party_bytes, unclaimed_bytes}
use Rattle.dsr_statement.proofs.Puts.{flat_more}

pub then : {W : Type 0} {told : W → Written} {p q r : Pieces W} {xs ys : List ℕ} → Puts told p q xs → Puts told q r ys → Puts told p r (xs ++ ys)
then {W} {told} {p} {q} {r} {xs} {ys} first second = both_put told p q r xs ys first second

pub turn : {W : Type 0} {told : W → Written} {p q : Pieces W} {xs ys : List ℕ} → Puts told p q xs → xs ≡ ys → Puts told p q ys
turn {W} {told} {p} {q} puts e = subst (λ l. Puts told p q l) e puts

-- the lines of one more item, behind others
pub one_more : {W : Type 0} {told : W → Written} {p q r : Pieces W} {X : Type 0} (front : List ℕ) (f : X → List ℕ) (xs : List X) (x : X)
    → Puts told p q (front ++ flat_map f xs) → Puts told q r (f x) → Puts told p r (front ++ flat_map f (xs ++ x ∷ []))
one_more front f xs x before now =
    turn (then before now) (append_assoc front (flat_map f xs) (f x)
    ∙ ap (λ l. front ++ l) (sym (flat_map-append f xs (x ∷ []) ∙ ap (λ l. flat_map f xs ++ l) (append-nil (f x)))))

-- the lines of the first items of a list, and of one more
pub more : {W : Type 0} {told : W → Written} {p q r : Pieces W} {X : Type 0} (front : List ℕ) (f : X → List ℕ) (xs : List X) (i : ℕ) (x d : X)
    → i < length xs → x ≡ get_or xs i d → Puts told p q (front ++ flat_map f (take i xs)) → Puts told q r (f x)
    → Puts told p r (front ++ flat_map f (take (i + 1) xs))
more front f xs i x d less is before now =
    turn (then before now) (append_assoc front (flat_map f (take i xs)) (f x) ∙ ap (λ l. front ++ l) (flat_more f xs i x d less is))

-- the lines of all items
pub all : {W : Type 0} {told : W → Written} {p q : Pieces W} {X : Type 0} (front : List ℕ) (f : X → List ℕ) (xs : List X) (i : ℕ) → length xs ≤ i
    → Puts told p q (front ++ flat_map f (take i xs)) → Puts told p q (front ++ flat_map f xs)
all front f xs i end puts = turn puts (ap (λ l. front ++ flat_map f l) (take_all i xs end))

pub text_append : (a b : List Line) → text_of (a ++ b) ≡ text_of a ++ text_of b
text_append a b = flat_map-append line_bytes a b

-- the text of the line of each item, and of the lines of each
pub text_map : {X : Type 0} (f : X → Line) (xs : List X) → flat_map (λ x. line_bytes (f x)) xs ≡ text_of (map f xs)
text_map f [] = refl
text_map f (x ∷ xs) =
    flat_map-cons (λ y. line_bytes (f y)) x xs ∙ ap (λ t. line_bytes (f x) ++ t) (text_map f xs) ∙ sym (flat_map-cons line_bytes (f x) (map f xs))

pub text_flat : {X : Type 0} (f : X → List Line) (xs : List X) → flat_map (λ x. text_of (f x)) xs ≡ text_of (flat_map f xs)
text_flat f [] = refl
text_flat f (x ∷ xs) =
    flat_map-cons (λ y. text_of (f y)) x xs ∙ ap (λ t. text_of (f x) ++ t) (text_flat f xs) ∙ sym (text_append (f x) (flat_map f xs))
    ∙ ap text_of (sym (flat_map-cons f x xs))

-- the lines of a ledger line with these parties
pub ledger_parts : (l : LedgerLine) (ps : List PartyLine)
    → (sums_bytes l ++ flat_map (party_bytes l) ps) ++ unclaimed_bytes l ≡ text_of (lines_of_ledger (record l { parties = ps }))
ledger_parts l ps =
    let party = λ (p : PartyLine). lines.Party (key_of_line l) p in
    append_assoc (sums_bytes l) (flat_map (party_bytes l) ps) (unclaimed_bytes l)
    ∙ ap (λ t. sums_bytes l ++ t) ((λ i. text_map party ps i ++ sym (append-nil (unclaimed_bytes l)) i)
    ∙ sym (text_append (map party ps) (lines.Unclaimed (key_of_line l) l.unclaimed ∷ [])))

-- the line of one more file
files_more : (place : ℕ) (files : List FileLine) (f : FileLine)
    → text_of (files_from place (files ++ f ∷ [])) ≡ text_of (files_from place files) ++ line_bytes (lines.File (place + length files) f)
files_more place [] f =
    let on : place ≡ place + 0 = omega arith in
    append-nil (line_bytes (lines.File place f)) ∙ ap (λ n. line_bytes (lines.File n f)) on
files_more place (x ∷ xs) f =
    let on : suc place + length xs ≡ place + suc (length xs) = omega arith in
    let first = line_bytes (lines.File place x) in
    ap (λ l. first ++ l) (files_more (suc place) xs f ∙ ap (λ n. text_of (files_from (suc place) xs) ++ line_bytes (lines.File n f)) on)
    ∙ sym (append_assoc first (text_of (files_from (suc place) xs)) (line_bytes (lines.File (place + suc (length xs)) f)))

pub more_files : {W : Type 0} {told : W → Written} {p q r : Pieces W} {f : FileLine} (files : List FileLine) (i place : ℕ) (d : FileLine)
    → i < length files → place ≡ i + 1 → Puts told p q (text_of (files_from 1 (take i files))) → Puts told q r (line_bytes (lines.File place f)) → f ≡ get_or files i d
    → Puts told p r (text_of (files_from 1 (take (i + 1) files)))
more_files {W} {told} {p} {q} {r} {f} files i place d less at before now is =
    let was = take i files in
    let next = take_more files i d less ∙ ap (λ x. was ++ x ∷ []) (sym is) in
    let here : place ≡ 1 + length was = omega (arith, at, length-take-le i files (omega (arith, less))) in
    let line = ap (λ fs. text_of (files_from 1 fs)) next ∙ files_more 1 was f in
    turn (then before (turn now (ap (λ n. line_bytes (lines.File n f)) here))) (sym line)

-- the bytes of a report's lines, part by part
pub statement_parts : (r : Report)
    → line_bytes (head_of r.key) ++ (text_of (files_from 1 r.files) ++ (text_of (map (λ n. lines.Missing n) r.missing)
    ++ (text_of (map (λ d. lines.Summary d) r.differences) ++ (text_of (flat_map lines_of_ledger r.ledger) ++ text_of (map (λ x. lines.Reject x) r.rejects)))))
    ≡ text_of (statement_lines r)
statement_parts r =
    let files = files_from 1 r.files in let missing = map (λ (n : ℕ). lines.Missing n) r.missing in
    let differences = map (λ (d : Difference). lines.Summary d) r.differences in
    let ledger = flat_map lines_of_ledger r.ledger in let rejects = map (λ (x : Reject). lines.Reject x) r.rejects in
    let last = sym (text_append ledger rejects) in
    let others = ap (λ t. text_of differences ++ t) last ∙ sym (text_append differences (ledger ++ rejects)) in
    let more_others = ap (λ t. text_of missing ++ t) others ∙ sym (text_append missing (differences ++ (ledger ++ rejects))) in
    let tail = ap (λ t. text_of files ++ t) more_others ∙ sym (text_append files (missing ++ (differences ++ (ledger ++ rejects)))) in
    ap (λ t. line_bytes (head_of r.key) ++ t) tail
    ∙ sym (flat_map-cons line_bytes (head_of r.key) (files ++ (missing ++ (differences ++ (ledger ++ rejects)))))
