use Rattle.std.proofs.Common.{◌≡◌, ◌∙◌, List, [], map, length, Bor, ℕ, ap, refl, sym, subst, arith}
use Rattle.std.proofs.lemmas.List.{length-map}
use Rattle.std.proofs.lemmas.Bool.{false≢true}
use Rattle.csv.specs.Records.{fields_of}
use Rattle.lists.specs.LinkLists.{IsLinkRow, IsWish, signing_of, wish_of}
use Rattle.lists.proofs.Wishes.{wish_line}
use Rattle.lists.proofs.link_lists.SignerAnswerer.answer.Goals as goal

pub returns-clause-line : goal.returns-clause-line
returns-clause-line c w known honest =
    let texts : List (Bor (List ℕ)) = c.read_fields.new.texts in
    let read : map (λ t. t.now) texts ≡ fields_of c.args.row.now = c.if-not-read_fields.ensures.are refl in
    let count : length (fields_of c.args.row.now) ≡ 5 = c.if-not-read_fields.ensures.found.0 refl in
    let long : length texts ≡ 5 = sym (length-map texts (λ t. t.now)) ∙ ap length read ∙ count in
    wish_line (signing_of c.args.self.now.key c.args.self.now.host.now c.args.self.now.region.now) (wish_of c.in-Some.wish) texts (record { ref_ptr = (0, 0); now = [] }) _ c.in_ok-link.link.items _ _
    long read c.in-Some.ensures.some c.in_ok-link.ensures.link c.deref.ensures.value c.in_ok-line_of.ensures.line

pub returns-clause-some : goal.returns-clause-some
returns-clause-some c =
    (wish_of c.in-Some.wish, subst (λ fields. IsWish fields (wish_of c.in-Some.wish)) (c.if-not-read_fields.ensures.are refl) c.in-Some.ensures.some)

pub returns-then-not-read_fields-clause-none : goal.returns-then-not-read_fields-clause-none
returns-then-not-read_fields-clause-none c = λ row. false≢true (c.if-not-read_fields.ensures.found.1 (ap length row.1.are))

pub returns-in_default-clause-none : goal.returns-in_default-clause-none
returns-in_default-clause-none c = λ row. c.in_default.ensures.none (subst IsLinkRow (sym (c.if-not-read_fields.ensures.are refl)) row)

pub returns-clause-stays : goal.returns-clause-stays
returns-clause-stays c = grind arith
