use Rattle.std.proofs.Common.{◌≡◌, ℕ, Result, Ok, Err, List, [], ◌∷◌, ◌++◌, append_assoc, codes}
use Rattle.sigtext.specs.UriEncode.{uri_encoded}
use Rattle.sigtext.specs.declared.encode.Slash.TheVariants.{Kept}
use Rattle.std.specs.Bool.{if◌then◌else◌}
use Rattle.std.proofs.lemmas.Result.{IfOk-weaker}
use Rattle.std.specs.Result.{OnOk, is_ok}
use Rattle.links.proofs.writing.append_signed.Goals as goal

-- a text that is written piece by piece
written : (text-0 text-1 text-2 text-3 text-4 text-5 path query word signature : List ℕ)
    → text-1 ≡ text-0 ++ path → text-2 ≡ text-1 ++ 63 ∷ [] → text-3 ≡ text-2 ++ query → text-4 ≡ text-3 ++ word → text-5 ≡ text-4 ++ signature
    → text-5 ≡ text-0 ++ (path ++ 63 ∷ query ++ word ++ signature)
written text-0 text-1 text-2 text-3 text-4 text-5 path query word signature after_path after_mark after_query after_word after_signature =
    rw (after_signature, after_word, after_query, after_mark, after_path) (simp append_assoc)

-- what is appended, if it is appended
appended : {T E : Type 0} (r : Result T E) (text front behind : List ℕ) → text ≡ (if is_ok r then front ++ behind else front) → OnOk r (text ≡ front ++ behind)
appended (Ok x) text front behind is = is
appended (Err e) text front behind is = tt

pub returns : goal.returns
returns c =
    let front = c.extend_from_slice.new.self.items in
    let signature = c.args.signature.now in
    IfOk-weaker c.extend_from_slice-2.result _ _ (λ _ behind params holds.
    let (query, only, sent) = c.in_ok-query_into.ensures.ok params holds in
    (query, only, written c.args.text.now.items _ _ _ front _ (uri_encoded Kept c.args.path.now) query (codes "&X-Amz-Signature=") signature c.in_ok-uri_encode.ensures.ok c.in_ok-push.ensures.items sent c.in_ok-extend_from_slice.ensures.items behind))
    (appended c.extend_from_slice-2.result _ front signature c.extend_from_slice-2.ensures.items)
