use Rattle.sigv4.proofs.Moments.{moment_once, text_once}
use Rattle.sigv4.proofs.moment.law_read_back.Goals as goal

pub returns : goal.returns
returns c = record { one_moment = moment_once; one_text = text_once }
