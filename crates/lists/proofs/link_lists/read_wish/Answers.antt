use Rattle.std.proofs.Common.{◌≡◌, false, true, map, length, get_or, Bor, List, [], ℕ, refl, arith}
use Rattle.std.proofs.lemmas.Grind.{common_steps}
use Rattle.links.proofs.ServedMethods.{served_method}
use Rattle.links.proofs.SixLemmas.{none_of}
use Rattle.links.proofs.Texts.{clash}
use Rattle.links.specs.Methods.{method_text}
use Rattle.lists.specs.LinkLists.{IsLinkRow}
use Rattle.lists.proofs.Wishes.{row_method, row_start, row_expiry, wish_texts}
use Rattle.lists.proofs.link_lists.read_wish.Goals as goal

pub returns-in_err-start-clause-none : goal.returns-in_err-start-clause-none
returns-in_err-start-clause-none c =
    let other : IsLinkRow (map (λ t. t.now) c.args.texts.now) → ⊥ = λ row. let said = row_start c.args.texts.now _ row in c.in_err-start.ensures.none said.0 said.1 in
    none_of c.from_residual-in_err-start.result other

pub returns-in_err-expires-clause-none : goal.returns-in_err-expires-clause-none
returns-in_err-expires-clause-none c =
    let other : IsLinkRow (map (λ t. t.now) c.args.texts.now) → ⊥ = λ row. let said = row_expiry c.args.texts.now _ row in c.in_err-expires.ensures.none said.0 said.1 in
    none_of c.from_residual-in_err-expires.result other

pub returns-in_err-method-clause-none : goal.returns-in_err-method-clause-none
returns-in_err-method-clause-none c =
    let other : IsLinkRow (map (λ t. t.now) c.args.texts.now) → ⊥ = λ row. let said = row_method c.args.texts.now _ row in clash _ c.in_err-method.ensures.none (served_method _ said.0 said.1) in
    none_of c.from_residual.result other

pub returns-in_err-method-clause-some : goal.returns-in_err-method-clause-some
returns-in_err-method-clause-some c = rw c.from_residual.ensures tt

pub returns-in_err-start-clause-some : goal.returns-in_err-start-clause-some
returns-in_err-start-clause-some c = rw c.from_residual-in_err-start.ensures tt

pub returns-in_err-expires-clause-some : goal.returns-in_err-expires-clause-some
returns-in_err-expires-clause-some c = rw c.from_residual-in_err-expires.ensures tt

pub returns-clause-some : goal.returns-clause-some
returns-clause-some c =
    let texts = c.args.texts.now in
    let d : Bor (List ℕ) = record { ref_ptr = (0, 0); now = [] } in
    let long : length texts ≡ 5 = c.told-texts in
    let formed = c.if-not-has_form.ensures.0 refl in
    record {
      start = (get_or texts 3 d).now;
      expires = (get_or texts 4 d).now;
      files = λ is. let e : false ≡ true = rw is at c.if-eq.ensures in absurd cc;
      box = formed.0;
      name = formed.1;
      short = formed.2;
      is_start = c.in_ok-start.ensures.some;
      is_expires = c.in_ok-expires.ensures.some;
      are = wish_texts texts d (method_text c.in_ok-method.method) long c.in_ok-method.ensures.some;
    }

pub returns-then-eq-clause-none : goal.returns-then-eq-clause-none
returns-then-eq-clause-none c = grind (arith, common_steps)
