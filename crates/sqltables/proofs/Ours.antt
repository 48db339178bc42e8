-- What the schemas of both versions have in common, and how a statement on one table leaves the others.
use Rattle.std.proofs.Common.{◌≡◌, ◌≢◌, inl, inr, ℕ, ℤ, pos, List, length, Some, slice_get, arith, refl, sym, ap, subst}
use Rattle.std.specs.List.{AllByRecursion}
use Rattle.sqlite_trees.specs.Tree.{Trees}
use Rattle.sqlite_schema.specs.declared.schema.Table.{Table}
use Rattle.sqlite_schema.specs.declared.schema.Schema.{Schema}
use Rattle.sqltables.specs.Schema.{Version, IsVersion, v1, v2, s6, s9, keys_table, boxes_table, receipts_table, files_table, pieces_table, rules_table, key_box_table, staged_table}
use Rattle.sqlite_schema.specs.declared.command.Command.{Command}
use Rattle.sqltables.proofs.Says.{Says, Asks, BothSay, BothAsk}
use Rattle.sqltables.proofs.Restrict.{AllRestrict}

-- all tables except one have the same rows as before
pub record OthersStay (schema : Schema) (tree : ℕ) (db after : Trees) : Type 0 where
  pub office : 0 ≢ tree → after 0 ≡ db 0
  pub keys : 1 ≢ tree → after 1 ≡ db 1
  pub boxes : 3 ≢ tree → after 3 ≡ db 3
  pub receipts : 5 ≢ tree → after 5 ≡ db 5
  pub files : 6 ≢ tree → after 6 ≡ db 6
  pub pieces : 9 ≢ tree → after 9 ≡ db 9
  pub rules : schema ≡ s9 → 11 ≢ tree → after 11 ≡ db 11
  pub limits : schema ≡ s9 → 12 ≢ tree → after 12 ≡ db 12
  pub staged : schema ≡ s9 → 14 ≢ tree → after 14 ≡ db 14

abbrev pub boxes_at : Table
boxes_at = record boxes_table { tree = 3 }

abbrev pub receipts_at : Table
receipts_at = record receipts_table { tree = 5 }

abbrev pub files_at : Table
files_at = record files_table { tree = 6 }

abbrev pub pieces_at : Table
pieces_at = record pieces_table { tree = 9 }

abbrev pub keys_at : Table
keys_at = record keys_table { tree = 1 }

abbrev pub rules_at : Table
rules_at = record rules_table { tree = 11 }

abbrev pub limits_at : Table
limits_at = record key_box_table { tree = 12 }

abbrev pub staged_at : Table
staged_at = record staged_table { tree = 14 }

pub record IsOurs (schema : Schema) : Type 0 where
  pub restricts : AllRestrict schema
  pub keys : slice_get schema.tables 1 ≡ Some keys_at
  pub boxes : slice_get schema.tables 2 ≡ Some boxes_at
  pub receipts : slice_get schema.tables 3 ≡ Some receipts_at
  pub files : slice_get schema.tables 4 ≡ Some files_at
  pub pieces : slice_get schema.tables 5 ≡ Some pieces_at
  pub stay : (tree : ℕ) (db after : Trees) → AllByRecursion (λ t. t.tree ≢ tree → after t.tree ≡ db t.tree) schema.tables → OthersStay schema tree db after

pub versions_differ : v1 ≡ v2 → ⊥
versions_differ same = let n : ◌≡◌ {A = ℤ} (pos 1) (pos 2) = ap (λ (v : Version). v.number) same in absurd cc

-- version 1 lacks tables of version 2
lacks : s6 ≡ s9 → ⊥
lacks same = let n : ◌≡◌ {A = ℕ} 6 9 = ap (λ (s : Schema). length s.tables) same in omega (arith, n)

pub ours_1 : IsOurs s6
ours_1 = record {
  restricts = (tt, (tt, (tt, (((refl, refl), ((refl, refl), tt)), (((refl, refl), ((refl, refl), tt)), (((refl, refl), tt), tt))))));
  keys = refl;
  boxes = refl;
  receipts = refl;
  files = refl;
  pieces = refl;
  stay = λ tree db after all. record { office = all.0; keys = all.1.0; boxes = all.1.1.0; receipts = all.1.1.1.0; files = all.1.1.1.1.0; pieces = all.1.1.1.1.1.0; rules = λ is. absurd (lacks is); limits = λ is. absurd (lacks is); staged = λ is. absurd (lacks is) };
}

pub ours_2 : IsOurs s9
ours_2 = record {
  restricts = (tt, (tt, (tt, (((refl, refl), ((refl, refl), tt)), (((refl, refl), ((refl, refl), tt)), (((refl, refl), tt), (tt, (((refl, refl), ((refl, refl), tt)), (tt, tt)))))))));
  keys = refl;
  boxes = refl;
  receipts = refl;
  files = refl;
  pieces = refl;
  stay = λ tree db after all. record {
    office = all.0;
    keys = all.1.0;
    boxes = all.1.1.0;
    receipts = all.1.1.1.0;
    files = all.1.1.1.1.0;
    pieces = all.1.1.1.1.1.0;
    rules = λ is. all.1.1.1.1.1.1.0;
    limits = λ is. all.1.1.1.1.1.1.1.0;
    staged = λ is. all.1.1.1.1.1.1.1.1.0;
  };
}

pub ours_of : (v : Version) → IsVersion v → IsOurs v.schema
unfolding IsVersion
ours_of v (inl is) = subst (λ (w : Version). IsOurs w.schema) (sym is) ours_1
ours_of v (inr is) = subst (λ (w : Version). IsOurs w.schema) (sym is) ours_2

pub says_of : (v : Version) → IsVersion v → (text : List ℕ) (command : Command) → BothSay text command → Says v.schema text command
unfolding IsVersion
says_of v (inl is) text command both = subst (λ (w : Version). Says w.schema text command) (sym is) both.0
says_of v (inr is) text command both = subst (λ (w : Version). Says w.schema text command) (sym is) both.1

pub asks_of : (v : Version) → IsVersion v → (text : List ℕ) (command : Command) → BothAsk text command → Asks v.schema text command
unfolding IsVersion
asks_of v (inl is) text command both = subst (λ (w : Version). Asks w.schema text command) (sym is) both.0
asks_of v (inr is) text command both = subst (λ (w : Version). Asks w.schema text command) (sym is) both.1
