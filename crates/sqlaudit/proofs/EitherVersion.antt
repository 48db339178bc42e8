-- The result of two tests of a file, for version 2 and then for version 1.
use Rattle.std.proofs.Common.{◌≡◌, ◌≢◌, inl, inr, ℤ, pos, sym, subst, ◌∙◌}
use Rattle.sqlite_value.specs.declared.value.Value.TheVariants.{Int}
use Rattle.sqlite.specs.Effect.{Database}
use Rattle.sqlite.specs.State.{State}
use Rattle.sqltables.specs.Schema.{v1, v2, first_version, second_version}
use Rattle.sqlaudit.specs.declared.opening.Finding.{Finding}
use Rattle.sqlaudit.specs.declared.opening.Finding.TheVariants.{Sound, OtherVersion, Damaged}
use Rattle.sqlaudit.specs.declared.opening.Found.TheVariants as found
use Rattle.sqlaudit.specs.Opened.{HasOurs, IsOurs, LeavesUntouched, SeesSame, IsFound, IsEither, SaysVersion, AreDamaged, AreNeither}
use Rattle.sqlaudit.proofs.Tested.{office_version}

-- a file of another version is not found damaged
pub other_is_whole : {finding : Finding} → finding ≡ OtherVersion → finding ≢ Damaged
other_is_whole is damaged = let e : ◌≡◌ {A = Finding} OtherVersion Damaged = sym is ∙ damaged in cc

same_on : (old mid new : State) → SeesSame old mid → SeesSame mid new → SeesSame old new
same_on old mid new first second = record {
  was_open = λ is_open. first.was_open (second.was_open is_open);
  now_is = λ is_open. second.now_is is_open ∙ first.now_is (second.was_open is_open);
  committed_is = λ is_open. second.committed_is is_open ∙ first.committed_is (second.was_open is_open);
  mode = second.mode ∙ first.mode;
}

-- a sound file is not found damaged
pub sound_is_whole : {finding : Finding} → finding ≡ Sound → finding ≢ Damaged
sound_is_whole is damaged = let e : ◌≡◌ {A = Finding} Sound Damaged = sym is ∙ damaged in cc

-- two tests, one after the other
pub untouched_on : (old mid new : State) → LeavesUntouched old mid → LeavesUntouched mid new → LeavesUntouched old new
untouched_on old mid new first second = record {
  same = λ clean. same_on old mid new (first.same (second.honest clean)) (second.same clean);
  crash = λ clean trees left. first.crash (second.honest clean) trees (second.crash clean trees left);
  honest = λ clean. first.honest (second.honest clean);
}

-- a database says only one version
one_said : (db : Database) (a b : ℤ) → SaysVersion db a → SaysVersion db b → a ≡ b
one_said db a b one two = let same : Int a ≡ Int b = sym (one.each one.row one.there) ∙ two.each one.row one.there in cc

-- the second test saw the same as the first
pub ours_still : (old mid : State) → SeesSame old mid → HasOurs old → HasOurs mid
ours_still old mid same ours is_open = subst (λ db. IsOurs db.schema) (sym (same.now_is is_open)) (ours (same.was_open is_open))

pub damaged_second : (db : Database) → AreDamaged v2 db → AreNeither db
damaged_second db damaged = record {
  first = λ office is. let same : pos 1 ≡ pos 2 = damaged.version (pos 1) (office_version v1 first_version db office is) in cc;
  second = damaged.none;
  version = λ version says. inr (damaged.version version says);
}

pub damaged_first : (db : Database) → IsFound v2 OtherVersion db → AreDamaged v1 db → AreNeither db
damaged_first db other damaged = record {
  first = damaged.none;
  second = λ office is. other.2 (one_said db other.0 (pos 2) other.1 (office_version v2 second_version db office is));
  version = λ version says. inl (damaged.version version says);
}

pub other_version : (db : Database) → IsFound v2 OtherVersion db → IsFound v1 OtherVersion db → IsEither found.OtherVersion db
other_version db second first = (second.0, second.1, λ is. first.2 (one_said db first.0 second.0 first.1 second.1 ∙ is), second.2)
