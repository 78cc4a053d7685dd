-- The parts of the page that are always the same. None has a quotation mark: attributes have apostrophes.
use Rattle.std.specs.Prelude.{ℕ, List, ◌++◌, codes}
use Rattle.wy_text.specs.EndLines.{line_of}

-- up to the title of the page; nothing is loaded and no script runs, which a browser is asked to see to as well
unfoldable pub opening : List ℕ
opening =
    line_of (codes "<!DOCTYPE html>")
    ++ (line_of (codes "<html lang='en'>")
    ++ (line_of (codes "<head>")
    ++ (line_of (codes "<meta charset='utf-8'>")
    ++ (line_of (codes "<meta http-equiv='Content-Security-Policy' content='default-src &#39;none&#39;; style-src &#39;unsafe-inline&#39;'>")
    ++ (line_of (codes "<meta name='viewport' content='width=device-width, initial-scale=1'>")
    ++ codes "<title>")))))

-- between the title and the heading; the colours follow what the reader prefers, light or dark, and paper is light
unfoldable pub styles : List ℕ
styles =
    line_of (codes "</title>")
    ++ (line_of (codes "<style>")
    ++ (line_of (codes ":root { color-scheme: light dark; --ink: #1c1c1c; --paper: #ffffff; --dim: #5c5c5c; --rule: #d8d8d8; --data: #ffefb0; --other: #e4ecfb; }")
    ++ (line_of (codes "@media screen and (prefers-color-scheme: dark) { :root { --ink: #e4e4e4; --paper: #15171a; --dim: #b0b0b0; --rule: #34373b; --data: #463d10; --other: #243350; } }")
    ++ (line_of (codes "body { margin: 2rem auto; max-width: 76rem; padding: 0 1rem; background: var(--paper); color: var(--ink); font: 15px/1.5 system-ui, sans-serif; }")
    ++ (line_of (codes "h1, table, .key { font-family: ui-monospace, 'DejaVu Sans Mono', monospace; font-size: 14px; }")
    ++ (line_of (codes "h1 { font-size: 17px; overflow-wrap: anywhere; white-space: pre-wrap; }")
    ++ (line_of (codes "h2 { font-size: 15px; margin: 1.5rem 0 .5rem; }")
    ++ (line_of (codes "table { border-collapse: collapse; width: 100%; }")
    ++ (line_of (codes "td { padding: .05rem .6rem; vertical-align: top; white-space: pre-wrap; tab-size: 4; overflow-wrap: anywhere; }")
    ++ (line_of (codes ".source td:nth-child(1), .source td:nth-child(2) { width: 1%; color: var(--dim); text-align: right; overflow-wrap: normal; }")
    ++ (line_of (codes ".events td { border-top: 1px solid var(--rule); }")
    ++ (line_of (codes ".events td:nth-child(2) { width: 35%; }")
    ++ (line_of (codes ".events td:nth-child(2) a { white-space: nowrap; }")
    ++ (line_of (codes ".key { padding: 0 .4rem; white-space: nowrap; }")
    ++ (line_of (codes ".data { background: var(--data); }")
    ++ (line_of (codes ".other { background: var(--other); }")
    ++ (line_of (codes "a { color: inherit; text-decoration-color: var(--dim); }")
    ++ (line_of (codes ":target { outline: 2px solid var(--ink); outline-offset: -2px; }")
    ++ (line_of (codes "@media print { :root { color-scheme: light; } body { margin: 0; max-width: none; padding: 0; } .data, .other { -webkit-print-color-adjust: exact; print-color-adjust: exact; } h2 { break-after: avoid; } tr { break-inside: avoid; } }")
    ++ (line_of (codes "</style>")
    ++ (line_of (codes "</head>")
    ++ (line_of (codes "<body>")
    ++ codes "<h1>"))))))))))))))))))))))

-- between the heading and the source
unfoldable pub middle : List ℕ
middle =
    line_of (codes "</h1>")
    ++ (line_of (codes "<p>All that this event comes from: <span class='key data'>* by data</span> <span class='key other'>- in another way</span></p>")
    ++ (line_of (codes "<h2>Source</h2>")
    ++ line_of (codes "<table class='source'>")))

-- between the source and the events
unfoldable pub between : List ℕ
between =
    line_of (codes "</table>")
    ++ (line_of (codes "<h2>Events, each with those that it comes from directly</h2>")
    ++ line_of (codes "<table class='events'>"))

-- behind the events
unfoldable pub closing : List ℕ
closing =
    line_of (codes "</table>")
    ++ (line_of (codes "</body>")
    ++ line_of (codes "</html>"))
