-- The words of a command line, as they are read one by one, ask for what all of them say.
use Rattle.std.proofs.Common.{◌≡◌, ℕ, Bool, true, false, List, [], ◌∷◌, ◌++◌, codes, Option, Some, None, IfSome, refl, sym, ap, ◌∙◌, subst, append-nil, if◌then◌else◌}
use Rattle.std.specs.Prelude.{option_to_list, unwrap_or}
use Rattle.std.specs.Str.{bytes_eq}
use Rattle.std.proofs.lemmas.Slice.Eq.{bytes_eq-Decides}
use Rattle.draw_report.specs.declared.asking.Kind.{Kind}
use Rattle.draw_report.specs.declared.asking.Kind.TheVariants.{Text, Svg, Html}
use Rattle.draw_report.specs.Asked.{AskFor, AskForPicture, Asked, Asks, Drawing, IsFile, Meaning, Nothing, Part, AsHtml, AsSvg, NamedBy, OfTrace, files, kinds, kinds_of, said_by_all, scripts, standard_input}
use Rattle.draw_report.specs.Reading.{Wish, asked_behind, asked_of, is_legend, no_wish, unless_given, wished_for, with_file, with_kind, with_option, with_word}
use Rattle.streams.specs.Words.{is_file_word}

abbrev wish : Bool → Option Kind → Option (List ℕ) → Option (List ℕ) → Wish
wish awaits made script file = record { kind = made; awaits_script = awaits; script = script; file = file }

-- what was said of it
abbrev kinds_from : Option Kind → List Kind
kinds_from None = []
kinds_from (Some k) = kinds_of k

-- a word says so
abbrev IsSaid : Kind → Type 0
IsSaid Text = ⊥
IsSaid Svg = Unit {0}
IsSaid Html = Unit {0}

same_text : (a b : List ℕ) → bytes_eq a b ≡ true → a ≡ b
same_text a b e = (bytes_eq-Decides a b).0 e

-- a word that names a file is no option
no_option : (word option : List ℕ) → is_file_word word ≡ true → is_file_word option ≡ false → bytes_eq word option ≡ false
no_option word option is isnt = go (bytes_eq word option) refl
  where
    go : (b : Bool) → bytes_eq word option ≡ b → b ≡ false
    go true same = let both : true ≡ false = sym is ∙ ap is_file_word (same_text word option same) ∙ isnt in absurd cc
    go false same = refl

-- ---- words that are said by parts are read so

kind_is : (made : Option Kind) (kind : Kind) → kinds_from made ++ [] ≡ kinds_of kind → unwrap_or made Text ≡ kind
kind_is None Text e = refl
kind_is None Svg e = absurd cc
kind_is None Html e = absurd cc
kind_is (Some Text) Text e = refl
kind_is (Some Text) Svg e = absurd cc
kind_is (Some Text) Html e = absurd cc
kind_is (Some Svg) Text e = absurd cc
kind_is (Some Svg) Svg e = refl
kind_is (Some Svg) Html e = absurd cc
kind_is (Some Html) Text e = absurd cc
kind_is (Some Html) Svg e = absurd cc
kind_is (Some Html) Html e = refl

one_is : (a b : Option (List ℕ)) → option_to_list a ++ [] ≡ option_to_list b → a ≡ b
one_is None None e = refl
one_is None (Some y) e = absurd cc
one_is (Some x) None e = absurd cc
one_is (Some x) (Some y) e = let same : x ≡ y = cc in ap Some same

not_twice : (a b : Kind) (ks : List Kind) (kind : Kind) → a ∷ b ∷ ks ≡ kinds_of kind → ⊥
not_twice a b ks Text e = cc
not_twice a b ks Svg e = cc
not_twice a b ks Html e = cc

reads : (ps : List Part) (made : Option Kind) (script file : Option (List ℕ)) (kind : Kind) (named trace : Option (List ℕ)) → IfSome made IsSaid → kinds_from made ++ kinds ps ≡ kinds_of kind → option_to_list script ++ scripts ps ≡ option_to_list named → option_to_list file ++ files ps ≡ option_to_list trace → IfSome named IsFile → IfSome trace IsFile → asked_behind (Some (wish false made script file)) (said_by_all ps) ≡ Drawing kind named (unwrap_or trace standard_input)
reads [] made script file kind named trace m k s f ns nf = rw (kind_is made kind k, one_is script named s, one_is file trace f) refl
reads (AsSvg ∷ ps) (Some Text) script file kind named trace m k s f ns nf = absurd m
reads (AsSvg ∷ ps) (Some Svg) script file kind named trace m k s f ns nf = absurd (not_twice Svg Svg (kinds ps) kind k)
reads (AsSvg ∷ ps) (Some Html) script file kind named trace m k s f ns nf = absurd (not_twice Html Svg (kinds ps) kind k)
reads (AsSvg ∷ ps) None script file kind named trace m k s f ns nf = reads ps (Some Svg) script file kind named trace tt k s f ns nf
reads (AsHtml ∷ ps) (Some Text) script file kind named trace m k s f ns nf = absurd m
reads (AsHtml ∷ ps) (Some Svg) script file kind named trace m k s f ns nf = absurd (not_twice Svg Html (kinds ps) kind k)
reads (AsHtml ∷ ps) (Some Html) script file kind named trace m k s f ns nf = absurd (not_twice Html Html (kinds ps) kind k)
reads (AsHtml ∷ ps) None script file kind named trace m k s f ns nf = reads ps (Some Html) script file kind named trace tt k s f ns nf
reads (NamedBy word ∷ ps) made (Some x) file kind None trace m k s f ns nf = absurd cc
reads (NamedBy word ∷ ps) made (Some x) file kind (Some y) trace m k s f ns nf = absurd cc
reads (NamedBy word ∷ ps) made None file kind None trace m k s f ns nf = absurd cc
reads (NamedBy word ∷ ps) made None file kind (Some y) trace m k s f ns nf =
    let same : word ≡ y = cc in
    let is : is_file_word word ≡ true = ap is_file_word same ∙ ns in
    subst (λ (b : Bool). asked_behind (if b then Some (wish false made (Some word) file) else None) (said_by_all ps) ≡ Drawing kind (Some y) (unwrap_or trace standard_input)) (sym is) (reads ps made (Some word) file kind (Some y) trace m k s f ns nf)
reads (OfTrace word ∷ ps) made script (Some x) kind named None m k s f ns nf = absurd cc
reads (OfTrace word ∷ ps) made script (Some x) kind named (Some y) m k s f ns nf = absurd cc
reads (OfTrace word ∷ ps) made script None kind named None m k s f ns nf = absurd cc
reads (OfTrace word ∷ ps) made script None kind named (Some y) m k s f ns nf =
    let same : word ≡ y = cc in
    let is : is_file_word word ≡ true = ap is_file_word same ∙ nf in
    let w = wish false made script None in
    subst (λ (b : Bool). asked_behind (if b then with_kind w Svg else (if bytes_eq word (codes "--html") then with_kind w Html else (if bytes_eq word (codes "--script") then with_option w else with_file w word))) (said_by_all ps) ≡ Drawing kind named (unwrap_or (Some y) standard_input)) (sym (no_option word (codes "--svg") is refl))
    (subst (λ (b : Bool). asked_behind (if b then with_kind w Html else (if bytes_eq word (codes "--script") then with_option w else with_file w word)) (said_by_all ps) ≡ Drawing kind named (unwrap_or (Some y) standard_input)) (sym (no_option word (codes "--html") is refl))
    (subst (λ (b : Bool). asked_behind (if b then with_option w else with_file w word) (said_by_all ps) ≡ Drawing kind named (unwrap_or (Some y) standard_input)) (sym (no_option word (codes "--script") is refl))
    (subst (λ (b : Bool). asked_behind (if b then Some (wish false made script (Some word)) else None) (said_by_all ps) ≡ Drawing kind named (unwrap_or (Some y) standard_input)) (sym is) (reads ps made script (Some word) kind named (Some y) m k s f ns nf))))

asked : (words : List (List ℕ)) (kind : Kind) (script trace : Option (List ℕ)) → AskForPicture words kind script trace → asked_behind (Some no_wish) words ≡ Drawing kind script (unwrap_or trace standard_input)
asked words kind script trace ask = ap (asked_behind (Some no_wish)) ask.said ∙ reads ask.parts None None None kind script trace tt ask.as_kind ask.named_by ask.of_trace ask.script_is_file ask.trace_is_file

-- ---- words that are read as a picture are said by parts

-- after words that said this
record Behind (made : Option Kind) (script file : Option (List ℕ)) (words : List (List ℕ)) (kind : Kind) (named : Option (List ℕ)) (whole : List ℕ) : Type 0 where
  parts : List Part
  trace : Option (List ℕ)
  said : words ≡ said_by_all parts
  as_kind : kinds_from made ++ kinds parts ≡ kinds_of kind
  named_by : option_to_list script ++ scripts parts ≡ option_to_list named
  of_trace : option_to_list file ++ files parts ≡ option_to_list trace
  script_is_file : IfSome script IsFile → IfSome named IsFile
  trace_is_file : IfSome file IsFile → IfSome trace IsFile
  whole_is : whole ≡ unwrap_or trace standard_input

-- where a script is awaited, its name comes first
abbrev Rest : Bool → Option Kind → Option (List ℕ) → Option (List ℕ) → List (List ℕ) → Kind → Option (List ℕ) → List ℕ → Type 0
Rest true made script file words kind named whole = (word : List ℕ) × (rest : List (List ℕ)) × (words ≡ word ∷ rest) × (is_file_word word ≡ true) × Behind made (Some word) file rest kind named whole
Rest false made script file words kind named whole = Behind made script file words kind named whole

end_is : (made : Option Kind) (script file : Option (List ℕ)) (kind : Kind) (named : Option (List ℕ)) (whole : List ℕ) → wished_for (wish false made script file) ≡ Drawing kind named whole → Behind made script file [] kind named whole
end_is made script file kind named whole e = record {
  parts = [];
  trace = file;
  said = refl;
  as_kind = kind_says made kind kind_same;
  named_by = append-nil (option_to_list script) ∙ ap option_to_list script_same;
  of_trace = append-nil (option_to_list file);
  script_is_file = λ is. subst (λ (n : Option (List ℕ)). IfSome n IsFile) script_same is;
  trace_is_file = λ is. is;
  whole_is = cc;
}
  where
    kind_same : unwrap_or made Text ≡ kind
    kind_same = cc

    script_same : script ≡ named
    script_same = cc

    kind_says : (made : Option Kind) (kind : Kind) → unwrap_or made Text ≡ kind → kinds_from made ++ [] ≡ kinds_of kind
    kind_says None kind same = ap kinds_of same
    kind_says (Some k) kind same = append-nil (kinds_of k) ∙ ap kinds_of same

module _ (words : List (List ℕ)) (kind : Kind) (named : Option (List ℕ)) (whole : List ℕ) (word : List ℕ) where
  abbrev IsRead : Bool → Option Kind → Option (List ℕ) → Option (List ℕ) → Type 0
  IsRead awaits made script file = asked_behind (Some (wish awaits made script file)) words ≡ Drawing kind named whole → Rest awaits made script file words kind named whole

  then_script : (made : Option Kind) (script file : Option (List ℕ)) → IsRead false made (Some word) file → (b : Bool) → is_file_word word ≡ b → asked_behind (if b then Some (wish false made (Some word) file) else None) words ≡ Drawing kind named whole → Rest true made script file (word ∷ words) kind named whole
  then_script made script file more true is e = (word, words, refl, is, more e)
  then_script made script file more false is e = absurd cc

  then_svg : (made : Option Kind) (script file : Option (List ℕ)) → IsRead false (Some Svg) script file → word ≡ codes "--svg" → asked_behind (unless_given made (Some (wish false (Some Svg) script file))) words ≡ Drawing kind named whole → Behind made script file (word ∷ words) kind named whole
  then_svg (Some x) script file more same e = absurd cc
  then_svg None script file more same e =
      let b = more e in
      record {
        parts = AsSvg ∷ b.parts;
        trace = b.trace;
        said = ap (λ w. w ∷ words) same ∙ ap (λ ws. codes "--svg" ∷ ws) b.said;
        as_kind = b.as_kind;
        named_by = b.named_by;
        of_trace = b.of_trace;
        script_is_file = b.script_is_file;
        trace_is_file = b.trace_is_file;
        whole_is = b.whole_is;
      }

  then_html : (made : Option Kind) (script file : Option (List ℕ)) → IsRead false (Some Html) script file → word ≡ codes "--html" → asked_behind (unless_given made (Some (wish false (Some Html) script file))) words ≡ Drawing kind named whole → Behind made script file (word ∷ words) kind named whole
  then_html (Some x) script file more same e = absurd cc
  then_html None script file more same e =
      let b = more e in
      record {
        parts = AsHtml ∷ b.parts;
        trace = b.trace;
        said = ap (λ w. w ∷ words) same ∙ ap (λ ws. codes "--html" ∷ ws) b.said;
        as_kind = b.as_kind;
        named_by = b.named_by;
        of_trace = b.of_trace;
        script_is_file = b.script_is_file;
        trace_is_file = b.trace_is_file;
        whole_is = b.whole_is;
      }

  then_option : (made : Option Kind) (script file : Option (List ℕ)) → IsRead true made None file → word ≡ codes "--script" → asked_behind (unless_given script (Some (wish true made script file))) words ≡ Drawing kind named whole → Behind made script file (word ∷ words) kind named whole
  then_option made (Some x) file more same e = absurd cc
  then_option made None file more same e =
      let r = more e in
      let b = r.4 in
      record {
        parts = NamedBy r.0 ∷ b.parts;
        trace = b.trace;
        said = ap (λ w. w ∷ words) same ∙ ap (λ ws. codes "--script" ∷ ws) (r.2 ∙ ap (λ ws. r.0 ∷ ws) b.said);
        as_kind = b.as_kind;
        named_by = b.named_by;
        of_trace = b.of_trace;
        script_is_file = λ none. b.script_is_file r.3;
        trace_is_file = b.trace_is_file;
        whole_is = b.whole_is;
      }

  then_file : (made : Option Kind) (script file : Option (List ℕ)) → IsRead false made script (Some word) → (b : Bool) → is_file_word word ≡ b → asked_behind (unless_given file (if b then Some (wish false made script (Some word)) else None)) words ≡ Drawing kind named whole → Behind made script file (word ∷ words) kind named whole
  then_file made script (Some x) more b is e = absurd cc
  then_file made script None more false is e = absurd cc
  then_file made script None more true is e =
      let b = more e in
      record {
        parts = OfTrace word ∷ b.parts;
        trace = b.trace;
        said = ap (λ ws. word ∷ ws) b.said;
        as_kind = b.as_kind;
        named_by = b.named_by;
        of_trace = b.of_trace;
        script_is_file = b.script_is_file;
        trace_is_file = λ none. b.trace_is_file is;
        whole_is = b.whole_is;
      }

  then_word : (made : Option Kind) (script file : Option (List ℕ)) → ((a : Bool) (k : Option Kind) (c f : Option (List ℕ)) → IsRead a k c f) → (b1 b2 b3 : Bool) → bytes_eq word (codes "--svg") ≡ b1 → bytes_eq word (codes "--html") ≡ b2 → bytes_eq word (codes "--script") ≡ b3 → asked_behind (if b1 then with_kind (wish false made script file) Svg else (if b2 then with_kind (wish false made script file) Html else (if b3 then with_option (wish false made script file) else with_file (wish false made script file) word))) words ≡ Drawing kind named whole → Behind made script file (word ∷ words) kind named whole
  then_word made script file more true b2 b3 one two three e = then_svg made script file (more false (Some Svg) script file) (same_text word (codes "--svg") one) e
  then_word made script file more false true b3 one two three e = then_html made script file (more false (Some Html) script file) (same_text word (codes "--html") two) e
  then_word made script file more false false true one two three e = then_option made script file (more true made None file) (same_text word (codes "--script") three) e
  then_word made script file more false false false one two three e = then_file made script file (more false made script (Some word)) (is_file_word word) refl e

said : (words : List (List ℕ)) (kind : Kind) (named : Option (List ℕ)) (whole : List ℕ) (awaits : Bool) (made : Option Kind) (script file : Option (List ℕ)) → asked_behind (Some (wish awaits made script file)) words ≡ Drawing kind named whole → Rest awaits made script file words kind named whole
said [] kind named whole true made script file e = absurd cc
said [] kind named whole false made script file e = end_is made script file kind named whole e
said (word ∷ words) kind named whole true made script file e = then_script words kind named whole word made script file (said words kind named whole false made (Some word) file) (is_file_word word) refl e
said (word ∷ words) kind named whole false made script file e = then_word words kind named whole word made script file (said words kind named whole) (bytes_eq word (codes "--svg")) (bytes_eq word (codes "--html")) (bytes_eq word (codes "--script")) refl refl refl e

asks_for : (words : List (List ℕ)) (kind : Kind) (script : Option (List ℕ)) (file : List ℕ) → asked_behind (Some no_wish) words ≡ Drawing kind script file → AskFor words (Drawing kind script file)
asks_for words kind script file e =
    let b = said words kind script file false None None None e in (
      b.trace,
      b.whole_is,
      record {
        parts = b.parts;
        said = b.said;
        as_kind = b.as_kind;
        named_by = b.named_by;
        of_trace = b.of_trace;
        script_is_file = b.script_is_file tt;
        trace_is_file = b.trace_is_file tt;
      },
    )

-- ---- the other command lines

no_meaning : (words : List (List ℕ)) (w : Option Wish) → asked_behind w words ≡ Meaning → ⊥
no_meaning words None e = absurd cc
no_meaning [] (Some w) e = go w.awaits_script e
  where
    go : (b : Bool) → (if b then Nothing else Drawing (unwrap_or w.kind Text) w.script (unwrap_or w.file standard_input)) ≡ Meaning → ⊥
    go true e = absurd cc
    go false e = absurd cc
no_meaning (word ∷ words) (Some w) e = no_meaning words (with_word w word) e

legend_is : (words : List (List ℕ)) → is_legend words ≡ true → words ≡ codes "--legend" ∷ []
legend_is [] e = absurd cc
legend_is (word ∷ []) e = ap (λ w. w ∷ []) (same_text word (codes "--legend") e)
legend_is (word ∷ v ∷ words) e = absurd cc

no_picture : (words : List (List ℕ)) (a : Asked) → is_legend words ≡ false → asked_behind (Some no_wish) words ≡ Nothing → AskFor words a → ⊥
no_picture words (Drawing kind script file) other none h = let both : Drawing kind script (unwrap_or h.0 standard_input) ≡ Nothing = sym (asked words kind script h.0 h.2) ∙ none in absurd cc
no_picture words Meaning other none h = let both : true ≡ false = sym (ap is_legend h) ∙ other in absurd cc
no_picture words Nothing other none h = h

-- what is read is what the words ask for
pub asks : (words : List (List ℕ)) → Asks words (asked_of words)
asks [] = refl
asks (program ∷ words) = go (is_legend words) refl
  where
    behind : (a : Asked) → is_legend words ≡ false → asked_behind (Some no_wish) words ≡ a → Asks (program ∷ words) a
    behind (Drawing kind script file) other e = asks_for words kind script file e
    behind Meaning other e = absurd (no_meaning words (Some no_wish) e)
    behind Nothing other e = λ a h. no_picture words a other e h

    go : (b : Bool) → is_legend words ≡ b → Asks (program ∷ words) (if b then Meaning else asked_behind (Some no_wish) words)
    go true is = legend_is words is
    go false is = behind (asked_behind (Some no_wish) words) is refl

-- and nothing else
picture_is : (words : List (List ℕ)) (kind : Kind) (script : Option (List ℕ)) (file : List ℕ) → AskFor words (Drawing kind script file) → (b : Bool) → is_legend words ≡ b → Drawing kind script file ≡ (if b then Meaning else asked_behind (Some no_wish) words)
picture_is words kind script file h true is =
    let e = asked words kind script h.0 h.2 in
    let both : Nothing ≡ Drawing kind script (unwrap_or h.0 standard_input) = ap (asked_behind (Some no_wish)) (sym (legend_is words is)) ∙ e in
    absurd cc
picture_is words kind script file h false is = ap (Drawing kind script) h.1 ∙ sym (asked words kind script h.0 h.2)

pub alone : (words : List (List ℕ)) (a : Asked) → Asks words a → a ≡ asked_of words
alone [] a h = h
alone (program ∷ words) (Drawing kind script file) h = picture_is words kind script file h (is_legend words) refl
alone (program ∷ words) Meaning h = let is : is_legend words ≡ true = ap is_legend h in rw is refl
alone (program ∷ words) Nothing h = go (asked_of (program ∷ words)) (asks (program ∷ words))
  where
    go : (a : Asked) → Asks (program ∷ words) a → Nothing ≡ a
    go (Drawing kind script file) it = absurd (h (Drawing kind script file) it)
    go Meaning it = absurd (h Meaning it)
    go Nothing it = refl
