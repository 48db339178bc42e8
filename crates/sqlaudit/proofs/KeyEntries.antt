-- A line is only one key.
use Rattle.std.proofs.Common.{◌≡◌, ◌∙◌, refl, sym, Bool, true, false}
use Rattle.boxes.specs.declared.rows.Role.{Role}
use Rattle.boxes.specs.declared.rows.Role.TheVariants.{Clerk, Link}
use Rattle.sqltables.specs.Tables.{role_number, flag}
use Rattle.sqlaudit.specs.Outlines.{IsKeyEntry, IsKeyRule}
use Rattle.sqlaudit.specs.Sorting.{IsGood}
use Rattle.sqlaudit.proofs.Entries.{IsFunctional}

pub one_role : (a b : Role) → role_number a ≡ role_number b → a ≡ b
one_role Clerk Clerk e = refl
one_role Link Link e = refl
one_role Clerk Link e = absurd cc
one_role Link Clerk e = absurd cc

pub one_flag : (a b : Bool) → flag a ≡ flag b → a ≡ b
one_flag true true e = refl
one_flag false false e = refl
one_flag true false e = absurd cc
one_flag false true e = absurd cc

pub one_key : IsFunctional (IsGood IsKeyEntry IsKeyRule)
one_key l j k v w a b =
    let role = one_role v.role w.role (sym a.entry.role_is ∙ b.entry.role_is) in
    let revoked = one_flag v.revoked w.revoked (sym a.entry.revoked_is ∙ b.entry.revoked_is) in
    let secret = sym a.entry.secret_is ∙ b.entry.secret_is in
    (sym a.entry.id_is ∙ b.entry.id_is, λ i. record { role = role i; secret = secret i; revoked = revoked i })
