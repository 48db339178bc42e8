use Rattle.std.proofs.Common.{Some, None, codes, eqb, arith}
use Rattle.std.proofs.lemmas.Bool.Decides.{Decides-eqb}
use Rattle.std.proofs.lemmas.Slice.Eq.{strip_suffix_is}
use Rattle.sigv4.proofs.Credentials.{joins, no_end, no_key_id, no_date}
use Rattle.sigv4.proofs.scope.parts.Goals as goal

pub returns-in_err-front-clause-absent : goal.returns-in_err-front-clause-absent
returns-in_err-front-clause-absent c =
    let other = strip_suffix_is {E = eqb} Decides-eqb c.args.credential.now (codes "/s3/aws4_request") None c.in_err-front.ensures.cases in
    rw c.from_residual.ensures (λ key_id scope _ _ e. no_end c.args.credential.now key_id scope other e)

pub returns-in_err-key_id-clause-absent : goal.returns-in_err-key_id-clause-absent
returns-in_err-key_id-clause-absent c =
    let ends = strip_suffix_is {E = eqb} Decides-eqb c.args.credential.now (codes "/s3/aws4_request") (Some c.in_ok-front.front) c.in_ok-front.ensures.cases in
    rw c.from_residual-in_err-key_id.ensures
    (λ key_id scope _ _ e. no_key_id c.args.credential.now c.in_ok-front.front.now key_id scope ends c.in_err-key_id.ensures e)

pub returns-in_err-date-clause-absent : goal.returns-in_err-date-clause-absent
returns-in_err-date-clause-absent c =
    let ends = strip_suffix_is {E = eqb} Decides-eqb c.args.credential.now (codes "/s3/aws4_request") (Some c.in_ok-front.front) c.in_ok-front.ensures.cases in
    let cut = c.in_ok-key_id.ensures in
    rw c.from_residual-in_err-date.ensures
    (λ key_id scope lacks _ e.
    no_date c.args.credential.now c.in_ok-front.front.now c.in_ok-key_id.key_id.now c.in_ok-key_id.rest.now key_id scope ends cut.0 cut.1 c.in_err-date.ensures lacks e)

pub returns-clause-found : goal.returns-clause-found
returns-clause-found c =
    let ends = strip_suffix_is {E = eqb} Decides-eqb c.args.credential.now (codes "/s3/aws4_request") (Some c.in_ok-front.front) c.in_ok-front.ensures.cases in
    let cut = c.in_ok-key_id.ensures in
    let cut_again = c.in_ok-date.ensures in
    let whole = joins c.args.credential.now c.in_ok-front.front.now c.in_ok-key_id.rest.now c.in_ok-key_id.key_id.now
    (record { date = c.in_ok-date.date.now; region = c.in_ok-date.region.now }) ends cut.0 cut_again.0 in
    (whole, cut.1, cut_again.1)

pub returns-in_err-date-clause-found : goal.returns-in_err-date-clause-found
returns-in_err-date-clause-found c = grind arith

pub returns-in_err-front-clause-found : goal.returns-in_err-front-clause-found
returns-in_err-front-clause-found c = grind arith

pub returns-in_err-key_id-clause-found : goal.returns-in_err-key_id-clause-found
returns-in_err-key_id-clause-found c = grind arith
