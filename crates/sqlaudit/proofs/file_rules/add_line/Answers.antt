use Rattle.std.proofs.Common.{◌≡◌, ◌∙◌, ◌∷◌, ◌++◌, inl, inr, ℕ, [], true, false, sym, ap, subst, Some, refl}
use Rattle.std.specs.Prelude.{MatchBool, nat_eq, option_map}
use Rattle.std.proofs.lemmas.Bool.{eqb-true, eq-eqb, false≢true}
use Rattle.boxes.specs.State.{Place, place_cmp}
use Rattle.boxes.proofs.Lookups.{place_total}
use Rattle.boxes.proofs.FileTotals.{place_same}
use Rattle.sqlaudit.specs.Sorting.{AddsTo, AreFiled, AreUnfiled, IsFiled, spot_of}
use Rattle.sqlaudit.proofs.Entries.{next_entry, refused_among, clashed_among}
use Rattle.sqlaudit.proofs.FileEntries.{one_filed, sums_same, sums_more}
use Rattle.sqlaudit.proofs.file_rules.add_line.Goals as goal

pub returns-in_default : goal.returns-in_default
returns-in_default c rs before h old look all = refused_among (IsFiled rs) look before c.args.line.now (c.in_default.ensures rs h) all

pub returns-in-Some-2 : goal.returns-in-Some-2
returns-in-Some-2 c rs before h old =
    let line = c.args.line.now in
    let first = c.in-Some-2.first in
    let number = c.in-Some.file.number in
    let k : Place = spot_of (c.in-Some.file.in_box, c.in-Some.file.name) in
    let made = c.in-Some.ensures rs h in
    let stood = sym c.in_ok-first.ensures.old ∙ c.in-Some-2.is in
    elim (nat_eq first number) as (λ b. nat_eq first number ≡ b → MatchBool b (AreFiled rs (before ++ line ∷ []) c.insert.new.self c.args.sums.now) (AreUnfiled rs (before ++ line ∷ []))) [
      | true ↦ λ e.
          let same : first ≡ number = eqb-true first number e in (
            next_entry place_cmp place_total place_same spot_of (λ (n : ℕ). n) (IsFiled rs) before line c.args.files.now c.insert.new.self k number old.0 made.0 c.in_ok-first.ensures.updates (inr (first, stood, same)),
            sums_same rs old.0.map k number c.args.sums.now.entries old.1 (old.0.means.each k ∙ ap (option_map (λ (n : ℕ). n)) stood ∙ ap (λ n. Some n) same),
          )
      | false ↦ λ e. λ look all.
          clashed_among place_cmp place_total place_same spot_of (λ (n : ℕ). n) (IsFiled rs) (one_filed rs) look before line c.args.files.now.entries k number first old.0 made.0 stood
          (λ same. false≢true (sym e ∙ eq-eqb first number same)) all
    ] refl

pub returns-in_ok-add_file-in-None : goal.returns-in_ok-add_file-in-None
returns-in_ok-add_file-in-None c rs before h old =
    let line = c.args.line.now in
    let number = c.in-Some.file.number in
    let k : Place = spot_of (c.in-Some.file.in_box, c.in-Some.file.name) in
    let made = c.in-Some.ensures rs h in
    let none = sym c.in_ok-first.ensures.old ∙ c.in-None.is in (
      next_entry place_cmp place_total place_same spot_of (λ (n : ℕ). n) (IsFiled rs) before line c.args.files.now c.insert.new.self k number old.0 made.0 c.in_ok-first.ensures.updates (inl none),
      sums_more rs old.0.map k number c.args.sums.now.entries c.add_file.new.sums.entries old.1 (old.0.means.each k ∙ ap (option_map (λ (n : ℕ). n)) none)
          (subst (λ size. AddsTo k.box size c.args.sums.now.entries c.add_file.new.sums.entries) made.1 c.in_ok-add_file-in-None.ensures),
    )
