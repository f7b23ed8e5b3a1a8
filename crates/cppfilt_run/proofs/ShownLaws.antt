-- Laws on what a line becomes, in the words of the code that cuts it.
use Rattle.std.proofs.Common.{◌≡◌, ℕ, ◌-◌, ◌≤◌, Bool, false, List, [], ◌∷◌, ◌++◌, length, take, drop, refl, sym}
use Rattle.std.proofs.Common.{ap}
use Rattle.std.proofs.Common.{◌∙◌, append_assoc, arith, eqb, get_or, rules, tests, true, Ok, Err}
use Rattle.std.proofs.lemmas.List.{length-take-le}
use Rattle.std.proofs.lemmas.Grind.{common_steps}
use Rattle.demangle_text.specs.Kind.{Kind, Unread, Deep, Other, End, Text, Bad, Over}
use Rattle.demangle_text.specs.Texts.{error_text}
use Rattle.demangle_printing.specs.Outcome.{Outcome, Shown, NotRead, NotPrinted, outcome}
use Rattle.demangle_context.specs.TroubleOf.{error_at}
use Rattle.demangler.specs.Answer.{answer_of, fault_text, read_error}
use Rattle.demangler.specs.declared.fault.SymbolFault.{SymbolFault}
use Rattle.demangler.specs.declared.fault.SymbolFault.TheVariants as fault
use Rattle.cppfilt_lines.specs.Due.{shown_line}
use Rattle.cppfilt_lines.specs.Lines.{body, ending}
use Rattle.cppfilt_lines.specs.Shown.{answered, is_asked, is_named, reading_text, refused, shown}
use Rattle.cppfilt_lines.specs.declared.options.FilterOptions.{FilterOptions}
use Rattle.cppfilt_lines.proofs.LineLaws.{shown-asked}
use Rattle.demangle_gather.specs.Gathered.{IsGathered}

-- no name begins with another byte than `_`
pub unnamed : (b : List ℕ) → eqb (get_or b 0 0) 95 ≡ false → is_named b ≡ false
unnamed [] other = refl
unnamed (x ∷ xs) other = let e : eqb 95 x ≡ false = search (rules, tests) in rw e refl

-- a line's bytes and its ending
pub shown_line-parts : (o : FilterOptions) (line : List ℕ) (n : ℕ) → body line ≡ take n line → n ≤ length line
    → shown_line o line ≡ shown o (take n line) ++ take (length line - n) (drop n line)
unfolding shown_line
shown_line-parts o line n e within =
    let end : length (body line) ≡ n = ap length e ∙ length-take-le n line within in
    let rest : take (length line - n) (drop n line) ≡ drop n line = grind (arith, common_steps) in
    ap (λ b. shown o b ++ ending line) e ∙ ap (λ k. shown o (take n line) ++ drop k line) end
    ∙ ap (λ r. shown o (take n line) ++ r) (sym rest)

-- ---- bytes with a cause
pub refused-parts : (why : Bool) (b cause : List ℕ) → why ≡ true → refused why b cause ≡ (b ++ 9 ∷ []) ++ cause
refused-parts true b cause on = sym (append_assoc b (9 ∷ []) cause)
refused-parts false b cause on = absurd cc

-- ---- an answer
reading-says : (k : Kind) → reading_text k ≡ error_text (read_error k)
reading-says (Unread End) = refl
reading-says (Unread Text) = refl
reading-says (Unread Bad) = refl
reading-says (Unread Over) = refl
reading-says Deep = refl
reading-says Other = refl

text-answered : (o : FilterOptions) (b text : List ℕ) (out : Outcome) → answer_of out ≡ Ok text
    → answered o b out ≡ text
text-answered o b text (Shown t) e = cc
text-answered o b text (NotRead k) e = absurd cc
text-answered o b text (NotPrinted f) e = absurd cc

fault-answered : (o : FilterOptions) (b : List ℕ) (f : SymbolFault) (out : Outcome) → answer_of out ≡ Err f
    → answered o b out ≡ refused o.why b (fault_text f)
fault-answered o b f (Shown t) e = absurd cc
fault-answered o b f (NotRead k) e =
    let is : fault.Read (read_error k) ≡ f = cc in
    ap (refused o.why b) (reading-says k ∙ ap fault_text is)
fault-answered o b f (NotPrinted g) e =
    let is : fault.Print (error_at g) ≡ f = cc in
    ap (λ (x : SymbolFault). refused o.why b (fault_text x)) is

-- bytes that are asked, by the answer of their outcome
shown-text : (o : FilterOptions) (b text : List ℕ) → is_asked o b ≡ true
    → answer_of (outcome o.parse o.print b) ≡ Ok text → shown o b ≡ text
shown-text o b text asked is = shown-asked o b asked ∙ text-answered o b text (outcome o.parse o.print b) is

pub shown-fault : (o : FilterOptions) (b : List ℕ) (f : SymbolFault) → is_asked o b ≡ true
    → answer_of (outcome o.parse o.print b) ≡ Err f → shown o b ≡ refused o.why b (fault_text f)
shown-fault o b f asked is = shown-asked o b asked ∙ fault-answered o b f (outcome o.parse o.print b) is

-- what is gathered once the text is
pub gathered-shown : (o : FilterOptions) (b old new : List ℕ) → is_asked o b ≡ true
    → IsGathered (answer_of (outcome o.parse o.print b)) old new (Ok tt) → old ++ shown o b ≡ new
gathered-shown o b old new asked is = ap (λ t. old ++ t) (shown-text o b is.0 asked is.1) ∙ sym is.2
