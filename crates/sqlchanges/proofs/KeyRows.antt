-- The INSERT of a key, and the UPDATE that revokes it.
use Rattle.std.proofs.Common.{◌≡◌, ℕ, ℤ, pos, List, [], ◌∷◌, map, drop, Option, true, false, None, Some, Ok, arith, refl, ap, sym, ◌∙◌}
use Rattle.std.specs.List.{list_all}
use Rattle.sigtext.specs.Bytes.{same_bytes}
use Rattle.sqlite_value.specs.declared.value.Value.TheVariants.{Null, Int, Text, Blob}
use Rattle.sqlite_value.specs.Order.{Row}
use Rattle.sqlite_sql.specs.Term.{holds, eval_all}
use Rattle.sqlite_schema.specs.declared.schema.Kind.TheVariants.{Integer}
use Rattle.sqlite_rules.specs.Edit.{numbered, next_rowid}
use Rattle.sqlite_rules.specs.Cast.{cast_row, cast, as_text}
use Rattle.sqlite_rules.specs.declared.error.Rowids.TheVariants.{Chosen}
use Rattle.sqlite.specs.State.{State, Executes}
use Rattle.sqlite.specs.Term.{Term, lit, col}
use Rattle.boxes.specs.declared.rows.Role.{Role}
use Rattle.boxes.specs.State.{Key}
use Rattle.sqltables.specs.Schema.{Version}
use Rattle.sqltables.specs.Tables.{Tables, TablesMean, RowsMean, IsKeyRow, put, role_number}
use Rattle.sqltables.specs.Changes.{with_key}
use Rattle.sqltables.specs.Means.{Holds}
use Rattle.sqltables.proofs.Says.{Says}
use Rattle.sqltables.proofs.Forms.{is, whole_number}
use Rattle.sqltables.proofs.Texts.{insert_key, insert_key_command, update_revoked, update_revoked_command}
use Rattle.sqltables.proofs.Ours.{IsOurs, OthersStay, keys_at}
use Rattle.sqltables.proofs.Rows.{cast_null, cast_int}
use Rattle.sqltables.proofs.Updates.{HaveRowids}
use Rattle.sqltables.proofs.Maps.{means_put, means_update, Hits}
use Rattle.sqltables.proofs.Keys.{adds_put, sets_put, tells_bytes}
use Rattle.sqlchanges.proofs.TotalRows.{passes_text}
use Rattle.sqlchanges.proofs.Steps.{inserts_row, updates_rows}

-- the other tables mean the same as before
others_mean : (v : Version) (tables : Tables) (key : List ℕ → Option Key) (old new : State) → TablesMean v old.now.trees tables → OthersStay v.schema 1 old.now.trees new.now.trees
    → RowsMean IsKeyRow key (new.now.trees 1) → TablesMean v new.now.trees (record tables { key = key })
others_mean v tables key old new means stay keys = record {
  office = rw (stay.office (λ e. omega (arith, e))) means.office;
  keys = keys;
  boxes = rw (stay.boxes (λ e. omega (arith, e))) means.boxes;
  receipts = rw (stay.receipts (λ e. omega (arith, e))) means.receipts;
  files = rw (stay.files (λ e. omega (arith, e))) means.files;
  pieces = rw (stay.pieces (λ e. omega (arith, e))) means.pieces;
  unlimited = means.unlimited;
  rules = λ two. rw (stay.rules (ap (λ (w : Version). w.schema) two) (λ e. omega (arith, e))) (means.rules two);
  limits = λ two. rw (stay.limits (ap (λ (w : Version). w.schema) two) (λ e. omega (arith, e))) (means.limits two);
}

-- ---- INSERT

abbrev pub given_key : List ℕ → Role → List ℕ → Row
given_key id role secret = Text id ∷ Int (role_number role) ∷ Blob secret ∷ []

abbrev key_row : ℤ → List ℕ → Role → List ℕ → Row
key_row n id role secret = Int n ∷ Text id ∷ Int (role_number role) ∷ Blob secret ∷ Int (pos 0) ∷ []

abbrev pub new_key : Role → List ℕ → Key
new_key role secret = record { role = role; secret = secret; revoked = false }

abbrev terms : List Term
terms = lit Null ∷ col 0 0 ∷ col 0 1 ∷ col 0 2 ∷ whole_number 0 ∷ []

news_are : (rows : List Row) (id : List ℕ) (role : Role) (secret : List ℕ)
    → numbered Chosen rows (map (λ s. cast_row keys_at (drop 0 s)) ((Null ∷ Text id ∷ Int (role_number role) ∷ Blob secret ∷ Int (pos 0) ∷ []) ∷ [])) ≡ key_row (next_rowid rows) id role secret ∷ []
news_are rows id role secret = rw (cast_null, cast_int (role_number role), cast_int (pos 0))

pub puts_key : (v : Version) (ours : IsOurs v.schema) (says : Says v.schema insert_key insert_key_command) (old new : State) (count : ℕ) (tables : Tables) (id : List ℕ) (role : Role) (secret : List ℕ)
    → old.now.schema ≡ v.schema → TablesMean v old.now.trees tables → tables.key id ≡ None
    → Executes insert_key (given_key id role secret) old new (Ok count) → Holds v new.now (with_key tables id (new_key role secret))
puts_key v ours says old new count tables id role secret has means free ran =
    let rows = old.now.trees 1 in
    let row = key_row (next_rowid rows) id role secret in
    let done = inserts_row v.schema ours keys_at 1 ours.keys insert_key (given_key id role secret) old new count (λ db. refl) has ran terms 5 says row (news_are rows id role secret) in
    let keys : RowsMean IsKeyRow (put same_bytes tables.key id (new_key role secret)) (new.now.trees 1) = rw done.1.is
    (means_put (put same_bytes tables.key id (new_key role secret)) rows row id (new_key role secret) (next_rowid rows) means.keys
    (record { id_is = refl; role_is = refl; secret_is = refl; revoked_is = refl }) refl (adds_put tells_bytes tables.key id (new_key role secret) free) done.1.fresh) in
    record { schema = done.0.same_schema; sound = done.0.sound; means = others_mean v tables (put same_bytes tables.key id (new_key role secret)) old new means done.0.stay keys }

-- ---- UPDATE

abbrev pub given_id : List ℕ → Row
given_id id = Text id ∷ []

abbrev filter : List Term
filter = is 1 0 ∷ []

abbrev set_terms : List Term
set_terms = col 1 0 ∷ col 1 1 ∷ col 1 2 ∷ col 1 3 ∷ whole_number 1 ∷ []

abbrev kept : Row → List ℕ → Row
kept r id = cast_row keys_at (eval_all set_terms (given_id id ∷ r ∷ []))

abbrev revoke : Key → Key
revoke key = record key { revoked = true }

hits_key : (id : List ℕ) → Hits IsKeyRow (λ r. list_all (holds (given_id id ∷ r ∷ [])) filter) (λ r. kept r id) id revoke
hits_key id = record {
  hit = λ r q v is passes. tells_bytes.only q id (sym (passes_text (given_id id) id q r refl is.id_is) ∙ passes);
  miss = λ r q v is fails same. let e = sym fails ∙ passes_text (given_id id) id q r refl is.id_is ∙ ap (λ x. same_bytes x id) same ∙ tells_bytes.itself id in cc;
  moved = λ r v is. record { id_is = ap as_text is.id_is; role_is = number is.role_is; secret_is = is.secret_is; revoked_is = cast_int (pos 1) };
  keeps = λ r n is. number is;
}
  where
    number : {n : _} {v : _} → v ≡ Int n → cast Integer v ≡ Int n
    number {n} e = ap (cast Integer) e ∙ cast_int n

pub revokes_key : (v : Version) (ours : IsOurs v.schema) (says : Says v.schema update_revoked update_revoked_command) (old new : State) (n : ℕ) (tables : Tables) (id : List ℕ) (key : Key)
    → old.now.schema ≡ v.schema → TablesMean v old.now.trees tables → tables.key id ≡ Some key
    → Executes update_revoked (given_id id) old new (Ok n) → Holds v new.now (with_key tables id (revoke key))
revokes_key v ours says old new n tables id key has means there ran =
    let rows = old.now.trees 1 in
    let apart : HaveRowids rows = record { keyed = means.keys.keyed; apart = means.keys.apart } in
    let done = updates_rows v.schema ours keys_at 1 ours.keys update_revoked (given_id id) old new n (λ db. refl) has ran filter set_terms says apart in
    let keys = means_update (put same_bytes tables.key id (revoke key)) rows (new.now.trees 1) (λ r. list_all (holds (given_id id ∷ r ∷ [])) filter) (λ r. kept r id)
    id revoke means.keys done.1 (hits_key id) (sets_put tells_bytes tables.key id key revoke there) in
    record { schema = done.0.same_schema; sound = done.0.sound; means = others_mean v tables (put same_bytes tables.key id (revoke key)) old new means done.0.stay keys }
