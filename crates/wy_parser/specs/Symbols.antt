-- A token, seen in a symbol and in its place.
use Rattle.std.specs.Prelude.{List, map}
use Rattle.wy_tree.specs.Seen.{Tok, seen}
use Rattle.wy_tree.specs.declared.token.Spanned.{Spanned}
use Rattle.wy_parser.specs.declared.symbol.Symbol.{Symbol}

abbrev pub symbol_seen : Symbol → Tok
symbol_seen s = seen s.token

abbrev pub symbols_seen : List Symbol → List Tok
symbols_seen s = map symbol_seen s

abbrev pub spanned_seen : Spanned → Tok
spanned_seen s = seen s.token
