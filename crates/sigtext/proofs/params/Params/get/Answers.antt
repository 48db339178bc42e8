use Rattle.std.proofs.Common.{◌≡◌, ℕ, ◌+◌, ◌<◌, List, length, get_or, take, refl, sym, subst, ap, arith, All}
use Rattle.std.specs.Prelude.{Contains}
use Rattle.std.proofs.lemmas.List.{take_all}
use Rattle.std.proofs.lemmas.List.Elements.{Contains-get_or, All-nil, All-more}
use Rattle.percent_encoding.specs.Percent.{percent_decode}
use Rattle.sigtext.specs.declared.target.RawParam.{RawParam}
use Rattle.sigtext.proofs.NamedParams.{found, absent}
use Rattle.sigtext.proofs.params.Params.get.Goals as goal

there : (xs ys : List RawParam) (k : ℕ) (d : RawParam) → xs ≡ ys → k < length xs → Contains ys (get_or xs k d)
there xs ys k d same within = subst (λ (raws : List RawParam). Contains raws (get_or xs k d)) same (Contains-get_or xs k d within)

-- one more raw name with another decoding
one_more : (name : List ℕ) (xs ys : List RawParam) (k : ℕ) (d : RawParam) → xs ≡ ys → k < length xs → (percent_decode (get_or xs k d).name.now ≡ name → ⊥)
    → All (λ (raw : RawParam). percent_decode raw.name.now ≡ name → ⊥) (take k ys) → All (λ (raw : RawParam). percent_decode raw.name.now ≡ name → ⊥) (take (k + 1) ys)
one_more name xs ys k d same within other sofar =
    subst (λ (raws : List RawParam). All (λ (raw : RawParam). percent_decode raw.name.now ≡ name → ⊥) (take (k + 1) raws)) same
    (All-more (λ (raw : RawParam). percent_decode raw.name.now ≡ name → ⊥) xs k d within (subst (λ (raws : List RawParam). All (λ (raw : RawParam). percent_decode raw.name.now ≡ name → ⊥) (take k raws)) (sym same) sofar) other)

pub returns-then-decodes_to-clause-some : goal.returns-then-decodes_to-clause-some
returns-then-decodes_to-clause-some c = λ params h.
    found c.args.self.now params _ c.args.name.now h (there _ _ _ _ c.deref-raw-items.ensures.value c.loop-raw-test.true) (c.if-decodes_to.ensures.0 refl)

pub returns-clause-none : goal.returns-clause-none
returns-clause-none c = λ params h.
    let raws = c.args.self.now.items.items in
    let long = ap (λ (rs : List RawParam). length rs) c.deref-raw-items.ensures.value in
    let none = subst (All (λ (raw : RawParam). percent_decode raw.name.now ≡ c.args.name.now → ⊥)) (take_all c.loop-raw.raw-index raws (omega (arith, long, c.loop-raw-test.false))) c.loop-raw.invariant in
    absent c.args.self.now params c.args.name.now h none

pub loop-raw-init : goal.loop-raw-init
loop-raw-init c = All-nil (λ (raw : RawParam). percent_decode raw.name.now ≡ c.args.name.now → ⊥)

pub loop-raw-preserved : goal.loop-raw-preserved
loop-raw-preserved c =
    one_more c.args.name.now c.deref-raw-items.result.now c.args.self.now.items.items c.loop-raw.raw-index _ c.deref-raw-items.ensures.value c.loop-raw-test.true
    (λ is. let t = c.if-decodes_to.ensures.1 is in cc) c.loop-raw.invariant
