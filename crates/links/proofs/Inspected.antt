-- What was read from a link, and which of its rules fails.
use Rattle.std.proofs.Common.{◌≡◌, ℕ, List, sym, subst}
use Rattle.std.specs.Prelude.{IfErr, IsErrAnd, Result, Ok, Err}
use Rattle.sigtext.specs.declared.refusal.Refusal.{Refusal}
use Rattle.sigtext.specs.declared.target.Target.{Target}
use Rattle.sigtext.specs.declared.params.Params.{Params}
use Rattle.sigtext.specs.Request.{Request}
use Rattle.sigtext.specs.Rules.{IsFirstToFail, AllHold}
use Rattle.sigtext.specs.Target.{Param, IsTargetOf}
use Rattle.sigtext.specs.Targets.{SpellsReading}
use Rattle.sigtext.specs.SignedHeaders.{Header}
use Rattle.sigtext.specs.SignedValues.{ValueRule}
use Rattle.links.specs.SixValues.{SixTexts, SixParts, SixRule, AreRightParams, AreWrongParams}
use Rattle.sigtext.specs.Readable.{HaveNames}
use Rattle.links.specs.LinkReadings.{IsAskedBy}
use Rattle.links.proofs.ServedMethods.{served_method}
use Rattle.links.specs.declared.methods.Method.{Method}
use Rattle.links.proofs.LinkRules.{Heads, HasTarget, HasSix, names_first, six_first, values_first}

-- an error that is passed on
pub carried : {T E : Type 0} (P : E → Type 0) (r : Result T E) (x : E) → IsErrAnd r (λ e. e ≡ x) → P x → IfErr r P
carried P (Ok t) x is p = tt
carried P (Err e) x is p = subst P (sym is) p

pub weaker_err : {T E : Type 0} {P Q : E → Type 0} (r : Result T E) → ((e : E) → P e → Q e) → IfErr r P → IfErr r Q
weaker_err (Ok t) f p = tt
weaker_err (Err e) f p = f e p

has_target : (method : Method) (t : Target) (headers : List Header) (r : Request) (asked : IsAskedBy method t headers r) → HasTarget r asked.read.read.path asked.read.read.params
has_target method t headers r asked = record { served = served_method r.method method asked.method_is; target = asked.read.is_target; only = asked.read.only }

-- what read_six says about every reading
abbrev pub ReadsRight : Target → Params → SixTexts → Type 0
ReadsRight t sorted six = (path : List ℕ) (params : List Param) → SpellsReading t path params → AreRightParams sorted six params

pub has_six : (method : Method) (t : Target) (headers : List Header) (r : Request) (asked : IsAskedBy method t headers r) (sorted : Params) (six : SixTexts) → ReadsRight t sorted six
    → HasSix r asked.read.read.path asked.read.read.params sorted six
has_six method t headers r asked sorted six right =
    record { has = has_target method t headers r asked; right = right asked.read.read.path asked.read.read.params asked.read.read.spelled }

pub wrong_names : (method : Method) (t : Target) (headers : List Header) (r : Request) (asked : IsAskedBy method t headers r) (q : Refusal)
    → ((path : List ℕ) (params : List Param) → SpellsReading t path params → AreWrongParams q params) → IsFirstToFail (Heads r) q
wrong_names method t headers r asked q wrong =
    names_first r asked.read.read.path asked.read.read.params q (has_target method t headers r asked) (wrong asked.read.read.path asked.read.read.params asked.read.read.spelled)

pub wrong_values : (method : Method) (t : Target) (headers : List Header) (r : Request) (asked : IsAskedBy method t headers r) (sorted : Params) (six : SixTexts) (q : Refusal) → ReadsRight t sorted six
    → IsFirstToFail (SixRule six) q → IsFirstToFail (Heads r) q
wrong_values method t headers r asked sorted six q right f =
    six_first r asked.read.read.path asked.read.read.params sorted six q (has_six method t headers r asked sorted six right) f

pub wrong_headers : (method : Method) (t : Target) (headers : List Header) (r : Request) (asked : IsAskedBy method t headers r) (sorted : Params) (six : SixTexts) (sp : SixParts) (q : Refusal) → ReadsRight t sorted six
    → AllHold (SixRule six) sp → IsFirstToFail (ValueRule headers sp.names) q → IsFirstToFail (Heads r) q
wrong_headers method t headers r asked sorted six sp q right all f =
    values_first r asked.read.read.path asked.read.read.params sorted six sp q (has_six method t headers r asked sorted six right) all
    (subst (λ (hs : List Header). IsFirstToFail (ValueRule hs sp.names) q) (sym asked.headers_are) f)

-- what is known about the names of each reading is known about the names of the request's target
pub names_of : (method : Method) (t : Target) (headers : List Header) (r : Request) → IsAskedBy method t headers r → ((path : List ℕ) (params : List Param) → SpellsReading t path params → HaveNames params)
    → (path : List ℕ) (params : List Param) → IsTargetOf r.target path params → HaveNames params
names_of method t headers r asked named path params is =
    subst HaveNames (sym (asked.read.only path params is).1) (named asked.read.read.path asked.read.read.params asked.read.read.spelled)

pub right_names : (t : Target) (sorted : Params) (six : SixTexts) → ReadsRight t sorted six → (path : List ℕ) (params : List Param) → SpellsReading t path params → HaveNames params
right_names t sorted six reads path params s = let right = reads path params s in (right.signed, right.are_six.no_other)
