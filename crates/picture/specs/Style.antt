-- How the shapes of an SVG picture are drawn.
use Rattle.std.specs.Prelude.{ℕ, List, ◌++◌, codes}

-- the font of all texts; the numbers of events end where they stand
abbrev pub font_style : List ℕ
font_style = codes "<style>text{font:11px monospace}.n{text-anchor:end;fill:#777}"

-- the names of bands and lanes are over their middle
abbrev pub heads_style : List ℕ
heads_style = codes ".h{text-anchor:middle;font-weight:bold}"

-- the classes of shapes and of words, an arrow's head, and the ground
abbrev pub shapes_style : List ℕ
shapes_style = codes
    ".t{stroke:#fff;stroke-width:3px;paint-order:stroke}path{fill:none;stroke:#222;stroke-width:2px}.l{stroke:#ccc;stroke-width:1px}.a{stroke:#07c;marker-end:url(#h)}.g{stroke:#07c}.k{stroke:#c00}.p{fill:#222}.q{fill:#fff;stroke:#07c}.c{fill:#9bd}.s{fill:#ddd}.d{fill:#fbb}.o{fill:#8c8}.i{fill:#fb6}.w{fill:#fdb}.u{fill:#888}</style>\n<defs><marker id=\"h\" viewBox=\"0 0 8 8\" refX=\"8\" refY=\"4\" markerWidth=\"4\" markerHeight=\"4\" orient=\"auto\"><path class=\"g\" d=\"M0 0 8 4 0 8\"/></marker></defs>\n<rect width=\"100%\" height=\"100%\" fill=\"#fff\"/>\n"

abbrev pub style : List ℕ
style = font_style ++ (heads_style ++ shapes_style)
