-- How many of an office's tables one of our schemas has.
use Rattle.sqltables.specs.Schema.{first_version, second_version}
use Rattle.std.proofs.Common.{◌≡◌, ◌≢◌, inl, inr, List, length, Some, slice_get, arith, refl, sym, subst, ◌∙◌}
use Rattle.sqlite_rules.specs.Lists.{Has}
use Rattle.sqlite_rules.proofs.ListLemmas.{all_has}
use Rattle.sqlite_schema.specs.declared.schema.Schema.{Schema}
use Rattle.sqlite_schema.specs.declared.schema.Table.{Table}
use Rattle.sqltables.specs.Schema.{Version, IsVersion, s1, s2, s3, s4, s5, s6, s7, s8, s9, begun_schemas, office_table, staged_table}
use Rattle.sqlaudit.specs.declared.formats.Format.{Format}
use Rattle.sqlaudit.specs.declared.formats.Format.TheVariants.{First, Second}
use Rattle.sqlaudit.specs.Formats.{version_of}
use Rattle.sqlaudit.specs.Opened.{IsOurs, IsTableAt, BeginsAsOffice, BeginNamed, AreFirstNamed, AreNamed, AreNamedAs}
use Rattle.sqltables.proofs.Ours.{keys_at, boxes_at, receipts_at, files_at, pieces_at, rules_at, limits_at}

-- what is known about the table at a position
pub table_at : (tables : List Table) (at : _) (name : _) (columns : _) (t : Table) → slice_get tables at ≡ Some t → IsTableAt tables at name columns → (t.name ≡ name) × (length t.columns ≡ columns)
table_at tables at name columns t there is =
    let some : Some is.table ≡ Some t = sym is.there ∙ there in
    let same : is.table ≡ t = cc in
    subst (λ (x : Table). (x.name ≡ name) × (length x.columns ≡ columns)) same (is.name_is, is.columns_are)

abbrev office_at : Table
office_at = record office_table { tree = 0 }

begun : (s : Schema) → slice_get s.tables 0 ≡ Some office_at → BeginsAsOffice s
begun s there = record { table = office_at; there = there; name_is = refl; columns_are = refl }

pub begun_named : (schema : Schema) → Has begun_schemas schema → BeginsAsOffice schema
begun_named schema = all_has BeginsAsOffice begun_schemas schema
    (begun s1 refl, (begun s2 refl, (begun s3 refl, (begun s4 refl, (begun s5 refl, (begun s6 refl, (begun s7 refl, (begun s8 refl, (begun s9 refl, tt)))))))))

-- the tables of each version are ours
first_begun : Has begun_schemas s6
first_begun = inr (inr (inr (inr (inr (inl refl)))))

second_begun : Has begun_schemas s9
second_begun = inr (inr (inr (inr (inr (inr (inr (inr (inl refl))))))))

pub ours_begun : (v : Version) → IsVersion v → Has begun_schemas v.schema
unfolding IsVersion
ours_begun v (inl is) = subst (λ (w : Version). Has begun_schemas w.schema) (sym is) first_begun
ours_begun v (inr is) = subst (λ (w : Version). Has begun_schemas w.schema) (sym is) second_begun

pub ours_named : (v : Version) → IsVersion v → BeginsAsOffice v.schema
ours_named v ours = begun_named v.schema (ours_begun v ours)

pub is_version : (format : Format) → IsVersion (version_of format)
is_version First = first_version
is_version Second = second_version

-- ---- all tables by their names

first_six : BeginNamed s6
first_six = record {
  office = record { table = office_at; there = refl; name_is = refl; columns_are = refl };
  keys = record { table = keys_at; there = refl; name_is = refl; columns_are = refl };
  boxes = record { table = boxes_at; there = refl; name_is = refl; columns_are = refl };
  receipts = record { table = receipts_at; there = refl; name_is = refl; columns_are = refl };
  files = record { table = files_at; there = refl; name_is = refl; columns_are = refl };
  pieces = record { table = pieces_at; there = refl; name_is = refl; columns_are = refl };
}

six_of_nine : BeginNamed s9
six_of_nine = record {
  office = record { table = office_at; there = refl; name_is = refl; columns_are = refl };
  keys = record { table = keys_at; there = refl; name_is = refl; columns_are = refl };
  boxes = record { table = boxes_at; there = refl; name_is = refl; columns_are = refl };
  receipts = record { table = receipts_at; there = refl; name_is = refl; columns_are = refl };
  files = record { table = files_at; there = refl; name_is = refl; columns_are = refl };
  pieces = record { table = pieces_at; there = refl; name_is = refl; columns_are = refl };
}

abbrev staged_at : Table
staged_at = record staged_table { tree = 14 }

whole_named : (format : Format) → AreNamedAs format (version_of format).schema
whole_named First = record { six = refl; first = first_six; indexes = refl; views = refl }
whole_named Second = record {
  nine = refl;
  first = six_of_nine;
  rules = record { table = rules_at; there = refl; name_is = refl; columns_are = refl };
  limits = record { table = limits_at; there = refl; name_is = refl; columns_are = refl };
  staged = record { table = staged_at; there = refl; name_is = refl; columns_are = refl };
  indexes = refl;
  views = refl;
}

-- a schema with a number of tables other than six, or other than nine
not_six : (s : Schema) → length s.tables ≢ 6 → AreFirstNamed s → s ≡ s6
not_six s other named = absurd (other named.six)

not_nine : (s : Schema) → length s.tables ≢ 9 → AreNamed s → s ≡ s9
not_nine s other named = absurd (other named.nine)

only_first : (schema : Schema) → Has begun_schemas schema → AreFirstNamed schema → schema ≡ s6
only_first schema = all_has (λ s. AreFirstNamed s → s ≡ s6) begun_schemas schema
    (not_six s1 (λ e. omega (arith, e)), (not_six s2 (λ e. omega (arith, e)), (not_six s3 (λ e. omega (arith, e)), (not_six s4 (λ e. omega (arith, e)), (not_six s5 (λ e. omega (arith, e)), (λ named. refl, (not_six s7 (λ e. omega (arith, e)), (not_six s8 (λ e. omega (arith, e)), (not_six s9 (λ e. omega (arith, e)), tt)))))))))

only_second : (schema : Schema) → Has begun_schemas schema → AreNamed schema → schema ≡ s9
only_second schema = all_has (λ s. AreNamed s → s ≡ s9) begun_schemas schema
    (not_nine s1 (λ e. omega (arith, e)), (not_nine s2 (λ e. omega (arith, e)), (not_nine s3 (λ e. omega (arith, e)), (not_nine s4 (λ e. omega (arith, e)), (not_nine s5 (λ e. omega (arith, e)), (not_nine s6 (λ e. omega (arith, e)), (not_nine s7 (λ e. omega (arith, e)), (not_nine s8 (λ e. omega (arith, e)), (λ named. refl, tt)))))))))

only_whole : (format : Format) (schema : Schema) → Has begun_schemas schema → AreNamedAs format schema → schema ≡ (version_of format).schema
only_whole First = only_first
only_whole Second = only_second

pub is_begun : (schema : Schema) → IsOurs schema → BeginsAsOffice schema → Has begun_schemas schema
is_begun schema (inl begun) first = begun
is_begun schema (inr none) first = absurd (none first)

pub is_whole : (format : Format) (schema : Schema) → IsOurs schema → BeginsAsOffice schema → AreNamedAs format schema → schema ≡ (version_of format).schema
is_whole format schema ours first named = only_whole format schema (is_begun schema ours first) named

pub is_less : (format : Format) (schema : Schema) → (AreNamedAs format schema → ⊥) → schema ≢ (version_of format).schema
is_less format schema not is = not (subst (AreNamedAs format) (sym is) (whole_named format))
