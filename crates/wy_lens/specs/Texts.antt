-- The texts that are written.
use Rattle.std.specs.Prelude.{ℕ, List, ◌++◌, codes}
use Rattle.wy_explain.specs.Explained.{line_of}

unfoldable pub usage_text : List ℕ
usage_text = line_of (codes "usage: whylens COMMAND WORDS, or whylens --help")

unfoldable pub help_text : List ℕ
help_text =
    line_of (codes "explain SRC                            says whether whyline runs the program in the file SRC, and if not, where it stops and why")
    ++ (line_of (codes "show TRACE QUESTION [--all] [--data]   the answer of whyline why by the lines of the source: how often each ran, and what was last there")
    ++ (line_of (codes "show TRACE --stop [--all] [--data]     the same of where the run stopped")
    ++ (line_of (codes "slice TRACE QUESTION                   the source, only the lines of the answer")
    ++ (line_of (codes "report TRACE QUESTION                  the answer as a page for a browser: the source, the events, and links between them")
    ++ (line_of (codes "diff GOOD BAD                          where two runs of one source part, and what to ask next of the second one")
    ++ (line_of (codes "expect TRACE FILE                      where the output is not what stands in a file: the first print that is another, or what never printed")
    ++ (line_of (codes "events TRACE [LINE]                    all events, or those of a line")
    ++ line_of (codes "--version                              names the program"))))))))

unfoldable pub version_text : List ℕ
version_text = line_of (codes "whylens 1")

unfoldable pub absent_line : List ℕ → List ℕ
absent_line name = line_of (codes "absent: " ++ name)

unfoldable pub too_long_line : List ℕ → List ℕ
too_long_line name = line_of (codes "too long: " ++ name)

unfoldable pub fault_line : List ℕ
fault_line = line_of (codes "fault: shelf")

unfoldable pub other_source_line : List ℕ
other_source_line = line_of (codes "question: other source")
