-- A refusal of the place is a refusal of the upload. Bytes already stored have the receipt of the stored file.
use Rattle.std.proofs.Common.{ap, rules, arith}
use Rattle.sigtext.specs.declared.refusal.Refusal.{Refusal}
use Rattle.boxes.specs.Rules.{PlaceRule}
use Rattle.boxes.specs.State.{Place}
use Rattle.boxes.proofs.Asked.{refused_at_place, repeat_step, rules_of_repeat}
use Rattle.boxes.proofs.uploads.upload.Goals as goal

pub returns-in-Err : goal.returns-in-Err
returns-in-Err c s u sound brought view bytes now key place =
    refused_at_place s u c.in-Err.refusal (c.in-Err.ensures s u.place view.in_box (ap (λ (p : Place). p.name) place))

pub returns : goal.returns
returns c s u sound brought view bytes now key place =
    let stands = bytes.stand.0 (search rules) in
    let places : (r : Refusal) → PlaceRule r s u.place = (c.in-Ok.ensures s u.place view.in_box (ap (λ (p : Place). p.name) place)).0 in
    (rules_of_repeat s u places stands, repeat_step s u c.args.view.now.standing c.in-Some.receipt c.in-Some.is view.standing stands)

pub returns-2 : goal.returns-2
returns-2 c = grind arith

pub returns-in-Err-check_new_bytes : goal.returns-in-Err-check_new_bytes
returns-in-Err-check_new_bytes c = grind arith
