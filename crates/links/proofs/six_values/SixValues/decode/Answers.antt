use Rattle.std.proofs.Common.{refl, ◌∙◌}
use Rattle.links.proofs.SixLemmas.{value_read}
use Rattle.links.proofs.SixPieces.{end_ascends, six_pieces}
use Rattle.links.proofs.six_values.SixValues.decode.Goals as goal

pub invariant_of-result : goal.invariant_of-result
invariant_of-result c = record {
  credential_fits = end_ascends _ _ _ _ _ (c.len-algorithm_end.ensures ∙ c.append_to.new.out.ok.0) (c.len-credential_end.ensures ∙ c.append_to-2.new.out.ok.0) c.in_ok-append_to-2.ensures.ok;
  date_fits = end_ascends _ _ _ _ _ (c.len-credential_end.ensures ∙ c.append_to-2.new.out.ok.0) (c.len-date_end.ensures ∙ c.append_to-3.new.out.ok.0) c.in_ok-append_to-3.ensures.ok;
  expires_fits = end_ascends _ _ _ _ _ (c.len-date_end.ensures ∙ c.append_to-3.new.out.ok.0) (c.len-expires_end.ensures ∙ c.append_to-4.new.out.ok.0) c.in_ok-append_to-4.ensures.ok;
  names_fit = end_ascends _ _ _ _ _ (c.len-expires_end.ensures ∙ c.append_to-4.new.out.ok.0) (c.len-names_end.ensures ∙ c.append_to-5.new.out.ok.0) c.in_ok-append_to-5.ensures.ok;
  signature_fits = end_ascends _ _ _ _ _ (c.len-names_end.ensures ∙ c.append_to-5.new.out.ok.0) refl c.in_ok-append_to-6.ensures.ok;
}

pub returns : goal.returns
returns c ps raw =
    let are = six_pieces _ _ _ _ _ _ _ _ _ _ _ _ _ _ _ _ _ _ c.in_ok-bytes.ensures.items c.in_ok-append_to.ensures.ok c.in_ok-append_to-2.ensures.ok c.in_ok-append_to-3.ensures.ok
    c.in_ok-append_to-4.ensures.ok c.in_ok-append_to-5.ensures.ok c.in_ok-append_to-6.ensures.ok
    (c.len-algorithm_end.ensures ∙ c.append_to.new.out.ok.0) (c.len-credential_end.ensures ∙ c.append_to-2.new.out.ok.0) (c.len-date_end.ensures ∙ c.append_to-3.new.out.ok.0) (c.len-expires_end.ensures ∙ c.append_to-4.new.out.ok.0) (c.len-names_end.ensures ∙ c.append_to-5.new.out.ok.0) in
    record {
      algorithm = value_read _ _ ps _ raw.algorithm (are.algorithm ∙ c.percent_decode.ensures.bytes);
      credential = value_read _ _ ps _ raw.credential (are.credential ∙ c.percent_decode-2.ensures.bytes);
      date = value_read _ _ ps _ raw.date (are.date ∙ c.percent_decode-3.ensures.bytes);
      expires = value_read _ _ ps _ raw.expires (are.expires ∙ c.percent_decode-4.ensures.bytes);
      names = value_read _ _ ps _ raw.names (are.names ∙ c.percent_decode-5.ensures.bytes);
      signature = value_read _ _ ps _ raw.signature (are.signature ∙ c.percent_decode-6.ensures.bytes);
    }
