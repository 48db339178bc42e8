-- Lists that are answered record by record.
use Rattle.std.proofs.Common.{◌≡◌, ◌∙◌, ℕ, List, [], ◌∷◌, ◌++◌, Option, Some, Result, Ok, Err, OnOk, inl, inr, refl, sym, ap, subst, append_assoc, append-nil}
use Rattle.std.specs.List.{AllByRecursion}
use Rattle.std.proofs.KnownBytes.{Appends-nil}
use Rattle.std.specs.Prelude.{⊤}
use Rattle.wire.specs.Sending.{Sends}
use Rattle.wire.proofs.Written.{sends_both}
use Rattle.csv.specs.Reading.{Reached, default_config, strip_bom}
use Rattle.csv.specs.Machine.{next_record, Read as OneRecord}
use Rattle.csv.specs.declared.parser.State.{State as Place}
use Rattle.lists.specs.Lists.{line, all_sent, AreLines, AnswersList, BeginsList, IsOfAnswering, IsOfReading, IsOfWriting, IsTable, ListTells, TellsRest, by_keeper}
use Rattle.csv.specs.declared.parser.State.TheVariants.{StartRecord}
use Rattle.lists.specs.declared.list_fault.ListFault.{ListFault}
use Rattle.lists.specs.declared.list_fault.ListFault.TheVariants as fault

pub lines_none : {A : Type 0} (IsLine : A → List ℕ → Type 0) → AreLines IsLine [] []
unfolding AreLines
lines_none IsLine = refl

-- one line more
pub lines_push : {A : Type 0} (IsLine : A → List ℕ → Type 0) (xs : List A) (text : List ℕ) (x : A) (one : List ℕ) → AreLines IsLine xs text → IsLine x one
    → AreLines IsLine (xs ++ x ∷ []) (text ++ one)
unfolding AreLines
lines_push IsLine [] text x one none is = (one, [], is, refl, rw none (sym (append-nil one)))
lines_push IsLine (y ∷ ys) text x one (first, rest, is_first, are, joined) is =
    (first, rest ++ one, is_first, lines_push IsLine ys rest x one are is, ap (λ t. t ++ one) joined ∙ append_assoc first rest one)

-- lines followed by more lines
pub lines_joined : {A : Type 0} (IsLine : A → List ℕ → Type 0) (xs ys : List A) (text more : List ℕ) → AreLines IsLine xs text → AreLines IsLine ys more
    → AreLines IsLine (xs ++ ys) (text ++ more)
unfolding AreLines
lines_joined IsLine [] ys text more none are = rw none are
lines_joined IsLine (x ∷ xs) ys text more (first, rest, is_first, are_rest, joined) are =
    (first, rest ++ more, is_first, lines_joined IsLine xs ys rest more are_rest are, ap (λ t. t ++ more) joined ∙ append_assoc first rest more)

pub all_push : {X : Type 0} (P : X → Type 0) (xs : List X) (x : X) → AllByRecursion P xs → P x → AllByRecursion P (xs ++ x ∷ [])
all_push P [] x all one = (one, tt)
all_push P (y ∷ ys) x all one = (all.0, all_push P ys x all.1 one)

on_ok : {T E : Type 0} (r : Result T E) {P : Type 0} → P → OnOk r P
on_ok (Ok x) p = p
on_ok (Err e) p = tt

-- the whole text was written
pub sends_whole : {T U E F : Type 0} {text : List ℕ} {old new : Option (List ℕ)} (u : T) (r : Result U F) → Sends {T = T} {E = E} text old new (Ok u) → Sends text old new r
sends_whole u r sent = record { front = sent.front; is_front = sent.is_front; written = sent.written; whole = on_ok r sent.whole }

-- nothing was to be written
pub sends_nothing : {T E : Type 0} (old : Option (List ℕ)) {r : Result T E} → Sends [] old old r
sends_nothing old {r} = record { front = []; is_front = record { rest = []; joined = refl }; written = Appends-nil old; whole = on_ok r refl }

-- writing broke off within a text, whatever error tells it
pub sends_err : {T U E F : Type 0} {text : List ℕ} {old new : Option (List ℕ)} (e : E) (f : F) → Sends {T = T} text old new (Err e) → Sends {T = U} text old new (Err f)
sends_err e f sent = record { front = sent.front; is_front = sent.is_front; written = sent.written; whole = tt }

-- writing did not begin
pub sends_none : {T E : Type 0} (text : List ℕ) (old : Option (List ℕ)) (e : E) → Sends {T = T} text old old (Err e)
sends_none text old e = record { front = []; is_front = record { rest = text; joined = refl }; written = Appends-nil old; whole = tt }

-- a text follows one that was written whole
pub sends_then : {T E : Type 0} (front rest : List ℕ) (old mid new : Option (List ℕ)) (u : T) (last : Result ⊤ ⊤)
    → Sends {T = T} {E = E} front old mid (Ok u) → Sends rest mid new last → Sends (front ++ rest) old new last
sends_then front rest old mid new u last first second = sends_both front rest old mid new tt last (sends_whole u (Ok tt) first) second

-- a table without rows is its head
pub none_table : {A : Type 0} (head : List (List ℕ)) (IsLine : A → List ℕ → Type 0) → IsTable head IsLine [] (line head)
none_table head IsLine = record { lines = []; are = lines_none IsLine; is = sym (append-nil (line head)) }

pub of_reading_broke : (T : Type 0) (e : ListFault) → IsOfReading e → all_sent {T = T} (Err e) ≡ Err tt
of_reading_broke T fault.Read is = refl
of_reading_broke T fault.Memory is = refl
of_reading_broke T fault.Order is = absurd is
of_reading_broke T fault.Head is = absurd is
of_reading_broke T (fault.Row n) is = absurd is
of_reading_broke T (fault.Keep f) is = absurd is
of_reading_broke T fault.Write is = absurd is

pub of_writing_broke : (T : Type 0) (e : ListFault) → IsOfWriting e → all_sent {T = T} (Err e) ≡ Err tt
of_writing_broke T fault.Write is = refl
of_writing_broke T fault.Memory is = refl
of_writing_broke T fault.Order is = absurd is
of_writing_broke T fault.Head is = absurd is
of_writing_broke T (fault.Row n) is = absurd is
of_writing_broke T (fault.Keep f) is = absurd is
of_writing_broke T fault.Read is = absurd is

-- a fault of writing is not the fault of another head
pub of_writing_headed : {T : Type 0} {P : Type 0} (e : ListFault) → IsOfWriting e → ◌≡◌ {A = Result T ListFault} (Err e) (Err fault.Head) → P
of_writing_headed {T} {P} e is same = absurd (go e is (same_fault e fault.Head same))
  where
    same_fault : (a b : ListFault) → ◌≡◌ {A = Result T ListFault} (Err a) (Err b) → a ≡ b
    same_fault a b p = cc

    go : (f : ListFault) → IsOfWriting f → f ≡ fault.Head → ⊥
    go f of p = subst IsOfWriting p of

-- no record was answered, and nothing was written
pub unanswered : {T W : Type 0} (head out_head : List (List ℕ)) (Form : List (List ℕ) → Type 0) (Known : W → Type 0) (IsLine : W → List (List ℕ) → List ℕ → Type 0) (read old : Option (List ℕ)) (e : ListFault)
    → all_sent {T = T} (Err e) ≡ Err tt → ((text : List ℕ) → read ≡ Some text → ListTells {T = T} head Form text [] (Err e)) → AnswersList {T = T} head out_head Form Known IsLine read old old (Err e)
unanswered head out_head Form Known IsLine read old e broke tells = record {
  rows = [];
  formed = tt;
  tells = tells;
  written = λ w k. (
    line out_head,
    none_table out_head (IsLine w),
    record { front = []; is_front = record { rest = line out_head; joined = refl }; written = Appends-nil old; whole = rw broke tt },
  );
  unwritten = λ is. refl;
}

pub of_reading_tells : (T : Type 0) (head : List (List ℕ)) (Form : List (List ℕ) → Type 0) (text : List ℕ) (e : ListFault) → IsOfReading e → ListTells {T = T} head Form text [] (Err e)
of_reading_tells T head Form text fault.Read is = inr refl
of_reading_tells T head Form text fault.Memory is = inr refl
of_reading_tells T head Form text fault.Order is = absurd is
of_reading_tells T head Form text fault.Head is = absurd is
of_reading_tells T head Form text (fault.Row n) is = absurd is
of_reading_tells T head Form text (fault.Keep f) is = absurd is
of_reading_tells T head Form text fault.Write is = absurd is

pub of_writing_tells : (T : Type 0) (head : List (List ℕ)) (Form : List (List ℕ) → Type 0) (text : List ℕ) (e : ListFault) → IsOfWriting e → BeginsList head text [] → ListTells {T = T} head Form text [] (Err e)
of_writing_tells T head Form text fault.Write is begins = begins
of_writing_tells T head Form text fault.Memory is begins = inl begins
of_writing_tells T head Form text fault.Order is begins = absurd is
of_writing_tells T head Form text fault.Head is begins = absurd is
of_writing_tells T head Form text (fault.Row n) is begins = absurd is
of_writing_tells T head Form text (fault.Keep f) is begins = absurd is
of_writing_tells T head Form text fault.Read is begins = absurd is

pub of_answering_tells : (T : Type 0) (Form : List (List ℕ) → Type 0) (s t : Place) (text rest : List ℕ) (rows : List (List (List ℕ))) (e : ListFault) → IsOfAnswering e
    → Reached default_config s text rows t rest → TellsRest {T = T} Form s text rows (Err e)
of_answering_tells T Form s t text rest rows (fault.Keep f) is reached = (t, rest, reached)
of_answering_tells T Form s t text rest rows fault.Memory is reached = (t, rest, reached)
of_answering_tells T Form s t text rest rows fault.Order is reached = absurd is
of_answering_tells T Form s t text rest rows fault.Head is reached = absurd is
of_answering_tells T Form s t text rest rows (fault.Row n) is reached = absurd is
of_answering_tells T Form s t text rest rows fault.Read is reached = absurd is
of_answering_tells T Form s t text rest rows fault.Write is reached = absurd is

-- the keeper's part of a fault does not depend on what was to be returned
pub same_keeper : (T U : Type 0) (e : ListFault) → by_keeper {T = T} (Err e) ≡ by_keeper {T = U} (Err e)
same_keeper T U (fault.Keep f) = refl
same_keeper T U _ = refl

-- a text has only one first record
pub first_record : (s t : Place) (xs ys : List ℕ) (f : List (List ℕ)) (p : OneRecord) → Reached default_config s xs (f ∷ []) t ys → next_record default_config s [] [] xs ≡ Some p → p.0 ≡ f
unfolding Reached
first_record s t xs ys f p (q, found, first, rest) is =
    let both : ◌≡◌ {A = Option OneRecord} (Some q) (Some p) = sym found ∙ is in
    let same : q ≡ p = cc in
    sym (ap (λ (r : OneRecord). r.0) same) ∙ sym first

-- records after the first
pub reached_behind : (s t u : Place) (xs ys zs : List ℕ) (f : List (List ℕ)) (rows : List (List (List ℕ))) → Reached default_config s xs (f ∷ []) t ys → Reached default_config t ys rows u zs
    → Reached default_config s xs (f ∷ rows) u zs
unfolding Reached
reached_behind s t u xs ys zs f rows (p, found, first, (state, rest)) more =
    (p, found, first, subst (λ a. Reached default_config a p.2 rows u zs) (sym state) (subst (λ b. Reached default_config t b rows u zs) (sym rest) more))

-- a result that holds for the records after the head holds for the whole list
pub behind_tells : {T : Type 0} (head : List (List ℕ)) (Form : List (List ℕ) → Type 0) (text : List ℕ) (t : Place) (ys : List ℕ) (rows : List (List (List ℕ))) (r : Result T ListFault)
    → Reached default_config StartRecord (strip_bom text) (head ∷ []) t ys → TellsRest Form t ys rows r → ListTells head Form text rows r
behind_tells head Form text t ys rows (Ok x) first (u, zs, more, none) = (u, zs, reached_behind _ _ _ _ _ _ _ _ first more, none)
behind_tells head Form text t ys rows (Err (fault.Row n)) first (bad, is_bad, n_is, u, zs, more) =
    (record { bad = bad; begins = (u, zs, reached_behind _ _ _ _ _ _ _ _ first more); is_bad = is_bad }, n_is)
behind_tells head Form text t ys rows (Err fault.Head) first told = absurd told
behind_tells head Form text t ys rows (Err fault.Order) first told = absurd told
behind_tells head Form text t ys rows (Err (fault.Keep f)) first (u, zs, more) = (u, zs, reached_behind _ _ _ _ _ _ _ _ first more)
behind_tells head Form text t ys rows (Err fault.Read) first (u, zs, more) = inl (u, zs, reached_behind _ _ _ _ _ _ _ _ first more)
behind_tells head Form text t ys rows (Err fault.Write) first (u, zs, more) = (u, zs, reached_behind _ _ _ _ _ _ _ _ first more)
behind_tells head Form text t ys rows (Err fault.Memory) first (u, zs, more) = inl (u, zs, reached_behind _ _ _ _ _ _ _ _ first more)

-- before the first record
pub reached_none : (s t : Place) (xs : List ℕ) → s ≡ t → Reached default_config s xs [] t xs
unfolding Reached
reached_none s t xs same = (same, refl)
