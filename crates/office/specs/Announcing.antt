-- The request of a message before its body came, with each possible body.
use Rattle.std.specs.Prelude.{ℕ, List, map, take}
use Rattle.sigtext.specs.Fields.{header_of}
use Rattle.sigtext.specs.Request.{Request}
use Rattle.sigtext.specs.declared.field.Field.{Field}
use Rattle.wire.specs.declared.feed.Opening.{Opening}
use Rattle.office.specs.declared.requests.announced.Announced.{Announced}

-- the request of the message with this body
abbrev pub request_with : Announced → List ℕ → Request
request_with message body = record {
  method = message.method.now;
  target = message.target.now;
  headers = map header_of message.fields.now;
  has_length = message.has_length;
  body = body;
}

-- the request with this head, whose fields are at the front of the list, and with this body
abbrev pub request_opened : Opening → List Field → List ℕ → Request
request_opened opening fields body = record {
  method = opening.head.method.now;
  target = opening.head.target.now;
  headers = map header_of (take opening.head.count fields);
  has_length = opening.has_length;
  body = body;
}
