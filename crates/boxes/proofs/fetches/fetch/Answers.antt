-- The file that the keeper answered is the stored one.
use Rattle.std.proofs.Common.{◌≡◌, ◌∙◌, Result, Ok, Err, Option, Some, None, refl, sym, ap, subst, rules}
use Rattle.std.specs.Prelude.{option_map, is_some}
use Rattle.std.specs.FinMap.{get}
use Rattle.sigtext.specs.declared.refusal.Refusal.{Refusal}
use Rattle.sigtext.specs.declared.refusal.Refusal.TheVariants as rule
use Rattle.boxes.specs.declared.rows.FileRow.{FileRow}
use Rattle.boxes.specs.State.{Place, State}
use Rattle.boxes.specs.Rows.{file_of, receipt_in, IsFileAt}
use Rattle.boxes.specs.Rules.{PlaceRule}
use Rattle.boxes.specs.Steps.{found}
use Rattle.boxes.specs.Deciding.{DecidesFetch}
use Rattle.boxes.proofs.Asked.{fetch_refused_at_place, least_no_file, rules_of_fetch}
use Rattle.boxes.proofs.fetches.fetch.Goals as goal

file_there : (s : State) (place : Place) (o : Option FileRow) (f : FileRow) → IsFileAt s place o → o ≡ Some f → get s.files place ≡ Some (file_of f)
file_there s place o f at is = sym at.file ∙ ap (option_map file_of) is

file_not_there : (s : State) (place : Place) (o : Option FileRow) → IsFileAt s place o → o ≡ None → get s.files place ≡ None
file_not_there s place o at is = sym at.file ∙ ap (option_map file_of) is

decided : (s : State) (place : Place) (o : Option FileRow) → IsFileAt s place o → ((r : Refusal) → PlaceRule r s place) → (result : Result FileRow Refusal)
    → ((f : FileRow) → o ≡ Some f → result ≡ Ok f) → (o ≡ None → result ≡ Err rule.NoSuchFile) → DecidesFetch s place result
decided s place o at place_holds result ok err =
    elim o as (λ p. o ≡ p → DecidesFetch s place result) [
      | None ↦ λ is.
          let none = ap is_some (file_not_there s place o at is) in
          subst (DecidesFetch s place) (sym (err is)) (least_no_file s place place_holds none)
      | Some f ↦ λ is.
          let there = file_there s place o f at is in
          subst (DecidesFetch s place) (sym (ok f is)) (rules_of_fetch s place (ap is_some there) place_holds, found (file_of f) (receipt_in f.receipt) there (at.receipt f is))
    ] refl

pub returns-in_err-box_for : goal.returns-in_err-box_for
returns-in_err-box_for c s in_box sound view =
    let place : Place = record { box = in_box; name = c.args.name.now } in
    let q = c.in_err-box_for.field-0.0 in
    let refused = fetch_refused_at_place s place q (c.in_err-box_for.ensures s place view.in_box refl) in
    let is : c.from_residual.result ≡ Err q = search rules in
    subst (DecidesFetch s place) (sym is) refused

pub returns : goal.returns
returns c s in_box sound view =
    let place : Place = record { box = in_box; name = c.args.name.now } in
    let holds = c.in_ok-box_for.ensures s place view.in_box refl in
    decided s place c.args.view.file view.file holds.0 c.ok_or.result (λ f is. search rules) (λ is. search rules)
