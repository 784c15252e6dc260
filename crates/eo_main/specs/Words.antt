-- How the code has what `clap` finds.
use Rattle.std.specs.Prelude.{List}
use Rattle.clap.specs.Words.{Row, found_of, rows_of}
use Rattle.clap.specs.declared.parser.matches.ArgMatches.{ArgMatches}

-- what was found for the arguments of a command
abbrev pub rows_in : ArgMatches → List Row
rows_in matches = rows_of (found_of matches)
