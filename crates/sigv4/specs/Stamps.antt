-- What a `Stamp` of the code means.
use Rattle.sigv4.specs.Dates.{CivilTime}
use Rattle.sigv4.specs.declared.moment.Stamp.{Stamp}

abbrev pub stamp_of : Stamp → CivilTime
stamp_of s = record { year = s.year; month = s.month; day = s.day; hour = s.hour; minute = s.minute; second = s.second }
