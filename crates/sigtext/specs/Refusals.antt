-- The refusals: for each rule its number, the status of the answer (RFC 9110, section 15), and the error code and text of
-- the body. The error codes are those of the Amazon S3 API Reference, "Error Responses", where it has one.
use Rattle.std.specs.Prelude.{ℕ, List, codes}
use Rattle.sigtext.specs.declared.refusal.Refusal.{Refusal}
use Rattle.sigtext.specs.declared.refusal.Refusal.TheVariants.{HeadMalformed, HeadTooLong, TransferCoding, LengthMalformed, BodyTooLarge, BodyIncomplete, Method, Target, NotSigned, Parameters, Algorithm, Credential, Date, Expiry, SignedHeaders, SignatureText, SignedValues, HeaderNotSigned, KeyUnknown, KeyRevoked, SignatureMismatch, NotYetValid, Expired, RoleNotAllowed, LengthMissing, BodyNotTaken, NoSuchBox, NameTooLong, NameNotAllowed, BoxClosed, OtherBytesKept, TooManyFiles, QuotaPassed, NoSuchFile, CommandMalformed, CommandNotPossible, TryAgain}

pub record Row : Type 0 where
  pub number : ℕ
  pub status : ℕ
  pub word : List ℕ
  pub text : List ℕ

abbrev pub row : ℕ → ℕ → List ℕ → List ℕ → Row
row number status word text = record { number = number; status = status; word = word; text = text }

abbrev pub row_of : Refusal → Row
row_of HeadMalformed = row 1 400 (codes "InvalidRequest") (codes "the head is not a request head")
row_of HeadTooLong = row 2 400 (codes "InvalidRequest") (codes "the head is too long")
row_of TransferCoding = row 3 501 (codes "NotImplemented") (codes "transfer codings are not served")
row_of LengthMalformed = row 4 400 (codes "InvalidRequest") (codes "Content-Length is malformed")
row_of BodyTooLarge = row 5 400 (codes "EntityTooLarge") (codes "the body is too large")
row_of BodyIncomplete = row 6 400 (codes "IncompleteBody") (codes "the input ended in the body")
row_of Method = row 7 405 (codes "MethodNotAllowed") (codes "the method is not served")
row_of Target = row 8 400 (codes "InvalidURI") (codes "the target is malformed")
row_of NotSigned = row 9 403 (codes "AccessDenied") (codes "the request is not signed")
row_of Parameters = row 10 400 (codes "AuthorizationQueryParametersError") (codes "the signing parameters are not the six")
row_of Algorithm = row 11 400 (codes "AuthorizationQueryParametersError") (codes "the algorithm is not AWS4-HMAC-SHA256")
row_of Credential = row 12 400 (codes "AuthorizationQueryParametersError") (codes "the credential is malformed")
row_of Date = row 13 400 (codes "AuthorizationQueryParametersError") (codes "the date is malformed")
row_of Expiry = row 14 400 (codes "AuthorizationQueryParametersError") (codes "the expiry is not 1 to 604800 seconds")
row_of SignedHeaders = row 15 400 (codes "AuthorizationQueryParametersError") (codes "the signed headers are malformed")
row_of SignatureText = row 16 400 (codes "AuthorizationQueryParametersError") (codes "the signature is not 64 lower-case hexadecimal digits")
row_of SignedValues = row 17 400 (codes "InvalidRequest") (codes "a signed header is absent, doubled or unfit")
row_of HeaderNotSigned = row 18 403 (codes "AccessDenied") (codes "an x-amz- header is not signed")
row_of KeyUnknown = row 19 403 (codes "InvalidAccessKeyId") (codes "the key is unknown")
row_of KeyRevoked = row 20 403 (codes "InvalidAccessKeyId") (codes "the key is revoked")
row_of SignatureMismatch = row 21 403 (codes "SignatureDoesNotMatch") (codes "the signature does not match")
row_of NotYetValid = row 22 403 (codes "AccessDenied") (codes "the link is not valid yet")
row_of Expired = row 23 403 (codes "AccessDenied") (codes "the link has expired")
row_of RoleNotAllowed = row 24 403 (codes "AccessDenied") (codes "the key may not do this")
row_of LengthMissing = row 25 411 (codes "MissingContentLength") (codes "Content-Length is missing")
row_of BodyNotTaken = row 26 400 (codes "InvalidRequest") (codes "a body is not taken here")
row_of NoSuchBox = row 27 404 (codes "NoSuchBucket") (codes "no such box")
row_of NameTooLong = row 28 400 (codes "KeyTooLongError") (codes "the name is too long")
row_of NameNotAllowed = row 29 400 (codes "InvalidArgument") (codes "the name is not allowed")
row_of BoxClosed = row 30 403 (codes "AccessDenied") (codes "the box is closed")
row_of OtherBytesKept = row 31 412 (codes "PreconditionFailed") (codes "other bytes are kept under this name")
row_of TooManyFiles = row 32 403 (codes "AccessDenied") (codes "the box has its greatest number of files")
row_of QuotaPassed = row 33 403 (codes "AccessDenied") (codes "the box's quota would be passed")
row_of NoSuchFile = row 34 404 (codes "NoSuchKey") (codes "no such file")
row_of CommandMalformed = row 35 400 (codes "InvalidArgument") (codes "the desk command is malformed")
row_of CommandNotPossible = row 36 400 (codes "InvalidArgument") (codes "the desk command is not possible")
row_of TryAgain = row 40 500 (codes "InternalError") (codes "try again")

abbrev pub number_of : Refusal → ℕ
number_of r = (row_of r).number

abbrev pub status_of : Refusal → ℕ
status_of r = (row_of r).status

abbrev pub word_of : Refusal → List ℕ
word_of r = (row_of r).word

abbrev pub text_of : Refusal → List ℕ
text_of r = (row_of r).text
