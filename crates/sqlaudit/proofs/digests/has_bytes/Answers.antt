use Rattle.std.proofs.Common.{◌≡◌, ◌<◌, IsTrue, pos, rules, subst, arith}
use Rattle.std.specs.Prelude.{MatchBool}
use Rattle.std.proofs.lemmas.Result.{IfOk-weaker}
use Rattle.sigtext.specs.Bytes.{AreBytes}
use Rattle.sigv4.specs.Hmac.{sha256}
use Rattle.boxes.specs.State.{Place}
use Rattle.sqltables.specs.Inside.{seen}
use Rattle.sqlaudit.specs.Opened.{AreBytesFound, HasBytes, IsBare, IsNotBare, LacksBytes, place_in}
use Rattle.sqlaudit.proofs.Digested.{told, told_empty, none_told}
use Rattle.sqltables.proofs.Onward.{failed, refused, succeeded, weaker}
use Rattle.sqlaudit.proofs.digests.has_bytes.Given as given
use Rattle.sqlaudit.proofs.digests.has_bytes.Goals.{In-Ok}
use Rattle.sqlaudit.proofs.digests.has_bytes.Goals as goal

module _ (g : given.Over) (c : In-Ok g) where
  -- the texts are those of the file
  place_is : record { box = c.in-Ok-Ok.in_box.now; name = c.in-Ok-Ok.name.now } ≡ place_in c.args.file.now
  place_is =
      let box : c.in-Ok-Ok.in_box.now ≡ c.args.file.now.in_box.items = search rules in
      let name : c.in-Ok-Ok.name.now ≡ c.args.file.now.name.items = search rules in
      λ i. record { box = box i; name = name i }

  size_is : c.in-Some.given.now.length ≡ pos c.in-Ok.size
  size_is = search rules

pub returns-in_default-3-clause-read : goal.returns-in_default-3-clause-read
returns-in_default-3-clause-read g c v ours has whole inside clean =
    let rows = (seen g.T.Ledger.view c.args.tx.now).now.trees 9 in
    let place : Place = record { box = c.in-Ok-Ok.in_box.now; name = c.in-Ok-Ok.name.now } in
    let sized = (goal.at.returns-in_default-3-clause-read g c).In-Ok in
    let there = place_is g sized in
    let size = size_is g sized in
    none_told rows c.args.receipts.now c.args.file.now c.in-Some.given.now c.in-Some.ensures c.in-Ok.size size place there
    (subst (AreBytesFound rows place c.in-Ok.size) c.in_default-3.is (c.in_ok-bytes.ensures.read v ours has whole inside clean))

pub returns-then-size-eq0-clause-read : goal.returns-then-size-eq0-clause-read
returns-then-size-eq0-clause-read g c v ours has whole inside clean =
    let rows = (seen g.T.Ledger.view c.args.tx.now).now.trees 9 in
    let receipts = c.args.receipts.now in
    let file = c.args.file.now in
    let given = c.in-Some.given.now in
    let place : Place = record { box = c.in-Ok-Ok.in_box.now; name = c.in-Ok-Ok.name.now } in
    let sized = (goal.at.returns-then-size-eq0-clause-read g c).In-Ok in
    let there = place_is g sized in
    let size = size_is g sized in
    let none : c.in-Ok.size ≡ 0 = search rules in
    IfOk-weaker c.is_bare.result (λ b. MatchBool b (IsBare rows place given) (IsNotBare rows place given)) (λ b. MatchBool b (HasBytes rows receipts file) (LacksBytes rows receipts file))
    (told_empty rows receipts file given c.in-Some.ensures c.in-Ok.size size place there none) (c.is_bare.ensures.read v ours has whole inside clean)

pub returns-clause-read : goal.returns-clause-read
returns-clause-read g c v ours has whole inside clean =
    let rows = (seen g.T.Ledger.view c.args.tx.now).now.trees 9 in
    let place : Place = record { box = c.in-Ok-Ok.in_box.now; name = c.in-Ok-Ok.name.now } in
    let sized = (goal.at.returns-clause-read g c).In-Ok in
    let there = place_is g sized in
    let size = size_is g sized in
    let are = subst (AreBytesFound rows place c.in-Ok.size) c.in-Some-2.is (c.in_ok-bytes.ensures.read v ours has whole inside clean) in
    let octets = subst AreBytes c.deref-3.ensures.value c.have_digest.ensures.octets in
    let full : 0 < c.in-Ok.size = search rules in
    told rows c.args.receipts.now c.args.file.now c.in-Some.given.now c.in-Some.ensures c.in-Ok.size size place there full c.in-Some-2.bytes.items are octets c.have_digest.result
    (subst (λ xs. (IsTrue c.have_digest.result → sha256 xs ≡ c.in-Some.given.now.digest.items) × (sha256 xs ≡ c.in-Some.given.now.digest.items → IsTrue c.have_digest.result)) c.deref-3.ensures.value c.have_digest.ensures.told)

pub returns-in_default-clause-rest : goal.returns-in_default-clause-rest
returns-in_default-clause-rest g c = refused c.args.tx.now

pub returns-in_default-2-clause-rest : goal.returns-in_default-2-clause-rest
returns-in_default-2-clause-rest g c = refused c.args.tx.now

pub returns-in_default-2-2-clause-rest : goal.returns-in_default-2-2-clause-rest
returns-in_default-2-2-clause-rest g c = refused c.args.tx.now

pub returns-in_default-try_from-clause-rest : goal.returns-in_default-try_from-clause-rest
returns-in_default-try_from-clause-rest g c = refused c.args.tx.now

pub returns-then-size-eq0-clause-same : goal.returns-then-size-eq0-clause-same
returns-then-size-eq0-clause-same g c = c.is_bare.ensures.same

pub returns-then-size-eq0-clause-rest : goal.returns-then-size-eq0-clause-rest
returns-then-size-eq0-clause-rest g c = weaker (λ running. running.0) (λ began. began) c.is_bare.ensures.rest

pub returns-in_err-bytes-clause-rest : goal.returns-in_err-bytes-clause-rest
returns-in_err-bytes-clause-rest g c = failed c.from_residual.result c.find_bytes.ensures.rest c.from_residual.ensures.0

pub returns-in_default-3-clause-same : goal.returns-in_default-3-clause-same
returns-in_default-3-clause-same g c = c.in_ok-bytes.ensures.same

pub returns-in_default-3-clause-rest : goal.returns-in_default-3-clause-rest
returns-in_default-3-clause-rest g c = succeeded _ c.in_ok-bytes.ensures.rest

pub returns-clause-same : goal.returns-clause-same
returns-clause-same g c = c.in_ok-bytes.ensures.same

pub returns-clause-rest : goal.returns-clause-rest
returns-clause-rest g c = succeeded _ c.in_ok-bytes.ensures.rest

pub find_bytes-requires-text-in_box : goal.find_bytes-requires-text-in_box
find_bytes-requires-text-in_box g c = grind arith

pub find_bytes-requires-text-name : goal.find_bytes-requires-text-name
find_bytes-requires-text-name g c = grind arith

pub is_bare-requires-text-in_box : goal.is_bare-requires-text-in_box
is_bare-requires-text-in_box g c = grind arith

pub is_bare-requires-text-name : goal.is_bare-requires-text-name
is_bare-requires-text-name g c = grind arith

pub returns-in_default-try_from-clause-read : goal.returns-in_default-try_from-clause-read
returns-in_default-try_from-clause-read g c = grind arith

pub returns-in_default-try_from-clause-same : goal.returns-in_default-try_from-clause-same
returns-in_default-try_from-clause-same g c = grind arith
