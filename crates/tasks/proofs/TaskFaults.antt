-- What the task and the kinds of faults tell about the secrets of init.
use Rattle.std.proofs.Common.{◌≡◌, ◌⊎◌, inl, inr, ◌∙◌, ℕ, eqb, refl, true, false, sym, ap, subst, List, [], slice_index, Option, Some, None, is_some, Result, Ok, Err, IfErr, IfOk, IsErrAnd, MatchResult, codes}
use Rattle.std.specs.Option.{option_map_or}
use Rattle.std.specs.Prelude.{option_map}
use Rattle.clap.specs.Kinds.{FailsBy, IsAmong}
use Rattle.clap.specs.Faults.{fault_of}
use Rattle.clap.specs.Words.{Row, Text, first_of, kind_of, subcommand_of, takes}
use Rattle.clap.specs.declared.error.Error.{Error}
use Rattle.clap.specs.declared.error.kind.ErrorKind.{ErrorKind}
use Rattle.clap.specs.declared.error.kind.ErrorKind.TheVariants.{OutOfMemory}
use Rattle.tasks.specs.Tasks.{drop_app, HasValue, IsFaultOf, IsSecretFault, IsSecretIn, IsTaskIn, IsTaskOf, NamesNoSecret, NamesTwoSecrets}
use Rattle.tasks.specs.declared.task.Secret.{Secret}
use Rattle.tasks.specs.declared.task.Secret.TheVariants as secret
use Rattle.tasks.specs.declared.task.Task.{Task}
use Rattle.tasks.specs.declared.task.Task.TheVariants as task

abbrev Named : Type 0
Named = Option (Text × List Row)

same_name : (n m : Text) (rows more : List Row) (named : Named) → named ≡ Some (n, rows) → named ≡ Some (m, more) → n ≡ m
same_name n m rows more named is also = ap (λ (o : Named). option_map_or (λ p. p.0) o n) (sym is ∙ also)

same_rows : (n m : Text) (rows more : List Row) (named : Named) → named ≡ Some (n, rows) → named ≡ Some (m, more) → rows ≡ more
same_rows n m rows more named is also = ap (λ (o : Named). option_map_or (λ p. p.1) o rows) (sym is ∙ also)

none_and_some : (id : Text) (rows : List Row) → first_of id rows ≡ None → HasValue id rows → ⊥
none_and_some id rows none some =
    let bad : false ≡ true = sym (ap is_some none) ∙ some in
    cc

not_both : (named : Named) → NamesNoSecret named → NamesTwoSecrets named → ⊥
not_both named (rows, is, none, other) (more, also, some, too) =
    none_and_some (codes "secret") more (subst (λ r. first_of (codes "secret") r ≡ None) (same_rows _ _ rows more named is also) none) some

one_kind : (named : Named) (k j : ErrorKind) → IsSecretFault named k → IsSecretFault named j → k ≡ j
one_kind named k j (inl (none, a)) (inl (_, b)) = a ∙ sym b
one_kind named k j (inl (none, a)) (inr (two, b)) = absurd (not_both named none two)
one_kind named k j (inr (two, a)) (inl (none, b)) = absurd (not_both named none two)
one_kind named k j (inr (two, a)) (inr (_, b)) = a ∙ sym b

-- ---- no task has such a fault

init_named : (named : Named) (k : ErrorKind) → IsSecretFault named k → (rows : List Row) × (named ≡ Some (codes "init", rows))
init_named named k (inl ((rows, is, none, other), kind)) = (rows, is)
init_named named k (inr ((rows, is, some, too), kind)) = (rows, is)

other_name : (n : Text) (rows : List Row) (named : Named) (k : ErrorKind) → named ≡ Some (n, rows) → IsSecretFault named k → slice_index n 0 ≡ 105
other_name n rows named k is fault =
    let own = init_named named k fault in
    ap (λ (t : Text). slice_index t 0) (same_name n (codes "init") rows own.0 named is own.1)

-- a name that begins with another letter than `init`
not_init : (letter : ℕ) → eqb letter 105 ≡ false → letter ≡ 105 → ⊥
not_init letter other is =
    let same : eqb 105 105 ≡ false = subst (λ l. eqb l 105 ≡ false) is other in
    let bad : true ≡ false = same in
    cc

no_secret_in : (rows : List Row) (s : Secret) → IsSecretIn rows s → first_of (codes "secret") rows ≡ None → first_of (codes "secret-file") rows ≡ None → ⊥
no_secret_in rows (secret.Given text) (given, other) none absent = none_and_some (codes "secret") rows none (ap is_some given)
no_secret_in rows (secret.InFile name) (other, given) none absent = none_and_some (codes "secret-file") rows absent (ap is_some given)

two_secrets_in : (rows : List Row) (s : Secret) → IsSecretIn rows s → HasValue (codes "secret") rows → HasValue (codes "secret-file") rows → ⊥
two_secrets_in rows (secret.Given text) (given, other) some too = none_and_some (codes "secret-file") rows other too
two_secrets_in rows (secret.InFile name) (other, given) some too = none_and_some (codes "secret") rows other some

one_secret : (named : Named) (k : ErrorKind) (rows : List Row) (s : Secret) → named ≡ Some (codes "init", rows) → IsSecretIn rows s → IsSecretFault named k → ⊥
one_secret named k rows s is given (inl ((more, also, none, absent), kind)) =
    let same = sym (same_rows _ _ rows more named is also) in
    no_secret_in rows s given (subst (λ r. first_of (codes "secret") r ≡ None) same none) (subst (λ r. first_of (codes "secret-file") r ≡ None) same absent)
one_secret named k rows s is given (inr ((more, also, some, too), kind)) =
    let same = sym (same_rows _ _ rows more named is also) in
    two_secrets_in rows s given (subst (HasValue (codes "secret")) same some) (subst (HasValue (codes "secret-file")) same too)

no_task : (named : Named) (t : Task) (k : ErrorKind) → IsTaskIn named t → IsSecretFault named k → ⊥
no_task named (task.Init i) k (rows, is, values) fault = one_secret named k rows i.secret is values.2 fault
no_task named (task.Desk d) k (rows, is, values) fault = not_init 100 refl (other_name (codes "desk") rows named k is fault)
no_task named (task.Link l) k (rows, is, values) fault = not_init 108 refl (other_name (codes "link") rows named k is fault)
no_task named (task.Links l) k (rows, is, values) fault = not_init 108 refl (other_name (codes "links") rows named k is fault)
no_task named (task.Manifest o) k (rows, is, values) fault = not_init 109 refl (other_name (codes "manifest") rows named k is fault)
no_task named (task.Compare o) k (rows, is, values) fault = not_init 99 refl (other_name (codes "compare") rows named k is fault)
no_task named (task.List l) k (rows, is, values) fault = not_init 108 refl (other_name (codes "list") rows named k is fault)
no_task named (task.Export e) k (rows, is, values) fault = not_init 101 refl (other_name (codes "export") rows named k is fault)
no_task named (task.Replay r) k (rows, is, values) fault = not_init 114 refl (other_name (codes "replay") rows named k is fault)
no_task named (task.Serve s) k (rows, is, values) fault = not_init 115 refl (other_name (codes "serve") rows named k is fault)
no_task named (task.Migrate o) k (rows, is, values) fault = not_init 109 refl (other_name (codes "migrate") rows named k is fault)

-- ---- how the clauses of `Task::read` relate

abbrev HasFault : List Text → Result Task Error → Type 0
HasFault words r = MatchResult r (λ _. fault_of drop_app words ≡ []) (λ e. (kind_of e ≡ OutOfMemory) ⊎ IsFaultOf words (kind_of e))

abbrev IsRefused : ErrorKind → Result Task Error → Type 0
IsRefused kind r = IsErrAnd r (λ e. (kind_of e ≡ OutOfMemory) ⊎ (kind_of e ≡ kind))

pub has_fault : (words : List Text) (r : Result Task Error) → FailsBy (fault_of drop_app words) r → HasFault words r
has_fault words (Ok t) free = free
has_fault words (Err e) (inl memory) = inl memory
has_fault words (Err e) (inr among) = inr (inl among)

pub refused : (words : List Text) (r : Result Task Error) → IfOk r (IsTaskOf words) → HasFault words r
    → (kind : ErrorKind) → IsSecretFault (subcommand_of drop_app words) kind → fault_of drop_app words ≡ [] → IsRefused kind r
refused words (Ok t) is kinds kind fault free = absurd (no_task _ t kind is fault)
refused words (Err e) is (inl memory) kind fault free = inl memory
refused words (Err e) is (inr (inl among)) kind fault free = absurd (subst (IsAmong (kind_of e)) free among)
refused words (Err e) is (inr (inr own)) kind fault free = inr (one_kind _ (kind_of e) kind own.1 fault)

-- ---- what clap found is what the words name

abbrev FailsBySecret : Named → Result Task Error → Type 0
FailsBySecret named r = IfErr r (λ e. (kind_of e ≡ OutOfMemory) ⊎ IsSecretFault named (kind_of e))

pub is_task : (words : List Text) (named : Named) (r : Result Task Error) → named ≡ subcommand_of drop_app words → IfOk r (IsTaskIn named) → IfOk r (IsTaskOf words)
is_task words named r same task = subst (λ n. IfOk r (IsTaskIn n)) same task

pub fails_by_secret : (words : List Text) (named : Named) (r : Result Task Error) → named ≡ subcommand_of drop_app words → FailsBySecret named r
    → IfErr r (λ e. takes drop_app words ≡ true → (kind_of e ≡ OutOfMemory) ⊎ IsSecretFault (subcommand_of drop_app words) (kind_of e))
fails_by_secret words named (Ok t) same fault = tt
fails_by_secret words named (Err e) same fault =
    let own : FailsBySecret (subcommand_of drop_app words) (Err e) = subst (λ n. FailsBySecret n (Err e)) same fault in
    λ taken. own

pub fails_by_secret_or_words : (words : List Text) (named : Named) (r : Result Task Error) → named ≡ subcommand_of drop_app words → fault_of drop_app words ≡ []
    → FailsBySecret named r → HasFault words r
fails_by_secret_or_words words named (Ok t) same free fault = free
fails_by_secret_or_words words named (Err e) same free (inl memory) = inl memory
fails_by_secret_or_words words named (Err e) same free (inr own) = inr (inr (free, subst (λ n. IsSecretFault n (kind_of e)) same own))

-- the matches of a command are those of the command that is named
pub rows_of_init : (rows more : List Row) (named : Named) → option_map (λ p. p.1) named ≡ Some rows → named ≡ Some (codes "init", more) → rows ≡ more
rows_of_init rows more named of is =
    let both : Some rows ≡ Some more = sym of ∙ ap (option_map (λ (p : Text × List Row). p.1)) is in
    ap (λ (o : Option (List Row)). option_map_or (λ r. r) o rows) both
