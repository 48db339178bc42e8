use Rattle.std.proofs.Common.{ℕ, List, map, refl, sym, subst, arith}
use Rattle.sigtext.specs.Rules.{IsFirstToFail}
use Rattle.sigtext.specs.Fields.{header_of}
use Rattle.links.specs.LinkReadings.{IsAskedBy}
use Rattle.links.proofs.LinkRules.{Heads, target_first}
use Rattle.links.proofs.Inspected.{weaker_err}
use Rattle.links.proofs.ServedMethods.{served_method}
use Rattle.office.specs.Announcing.{request_with}
use Rattle.office.proofs.Foreseen.{weaker_ok}
use Rattle.office.proofs.requests.reading.read_link.Goals as goal

pub returns-in-Ok-clause-ok : goal.returns-in-Ok-clause-ok
returns-in-Ok-clause-ok c =
    let asked : (body : List ℕ) → IsAskedBy c.args.method c.in-Ok.target (map header_of c.args.message.now.fields.now) (request_with c.args.message.now body) =
    λ body. record { method_is = c.requires; read = c.in-Ok.ensures.ok; headers_are = refl } in
    weaker_ok c.inspect.result (λ l f body. f (request_with c.args.message.now body) (asked body)) c.inspect.ensures.ok

pub returns-in-Ok-clause-err : goal.returns-in-Ok-clause-err
returns-in-Ok-clause-err c =
    let asked : (body : List ℕ) → IsAskedBy c.args.method c.in-Ok.target (map header_of c.args.message.now.fields.now) (request_with c.args.message.now body) =
    λ body. record { method_is = c.requires; read = c.in-Ok.ensures.ok; headers_are = refl } in
    weaker_err c.inspect.result (λ q f other body. f other (request_with c.args.message.now body) (asked body)) c.inspect.ensures.err

pub returns-in-Err-clause-err : goal.returns-in-Err-clause-err
returns-in-Err-clause-err c other body =
    subst (IsFirstToFail (Heads (request_with c.args.message.now body))) (sym c.refusal.ensures)
    (target_first (request_with c.args.message.now body) (served_method c.args.message.now.method.now c.args.method c.requires) c.in-Err.ensures.err)

pub returns-in-Ok-clause-readable : goal.returns-in-Ok-clause-readable
returns-in-Ok-clause-readable c =
    let read = c.in-Ok.ensures.ok in
    let asked : (body : List ℕ) → IsAskedBy c.args.method c.in-Ok.target (map header_of c.args.message.now.fields.now) (request_with c.args.message.now body) =
    λ body. record { method_is = c.requires; read = read; headers_are = refl } in
    weaker_err c.inspect.result (λ q named again body. record {
      served = served_method c.args.message.now.method.now c.args.method c.requires;
      path = read.read.path;
      params = read.read.params;
      target = read.is_target;
      named = named again (request_with c.args.message.now body) (asked body) read.read.path read.read.params read.is_target;
    }) c.inspect.ensures.named

pub returns-in-Err-clause-readable : goal.returns-in-Err-clause-readable
returns-in-Err-clause-readable c = grind arith
