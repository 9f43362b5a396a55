-- What words ask for, as the program holds it.
use Rattle.std.specs.Prelude.{map, string_bytes}
use Rattle.auditorium_view.specs.declared.words.Request.{Request}
use Rattle.auditorium_view.specs.ViewWords.{ViewRequest}

-- what is asked for
abbrev pub asked : Request → ViewRequest
asked request = record {
  picture = request.picture;
  roster = request.roster.now;
  rules = request.rules.now;
  logs = map string_bytes request.logs.now;
}
