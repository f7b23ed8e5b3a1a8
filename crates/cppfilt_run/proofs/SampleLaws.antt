-- Laws on the names of a sample and on what is counted of them.
use Rattle.std.proofs.Common.{◌≡◌, ℕ, zero, suc, ◌+◌, ◌%◌, List, [], ◌∷◌, ◌++◌, length, sym, ap, ◌∙◌, append_assoc}
use Rattle.std.proofs.Common.{add-one}
use Rattle.std.proofs.Common.{append-nil, arith, codes, refl, Ok, Err}
use Rattle.std.specs.Prelude.{Some, None}
use Rattle.std.specs.Fmt.{decimal}
use Rattle.demangle_printing.specs.Outcome.{Outcome, Shown, NotRead, NotPrinted}
use Rattle.demangler.specs.Answer.{answer_of}
use Rattle.demangler.specs.declared.fault.SymbolFault.{SymbolFault}
use Rattle.cppfilt_lines.specs.Sample.{copies, sample_name, sample_texts, source_name, summary, text_in, type_at}
use Rattle.cppfilt_lines.specs.Sample.{types_from}
use Rattle.cppfilt_lines.specs.declared.options.FilterOptions.{FilterOptions}
use Rattle.cppfilt_run.specs.Counted.{Counted, IsLength}

-- one copy more, at the end
pub copies-more : (n : ℕ) (bytes : List ℕ) → copies (suc n) bytes ≡ copies n bytes ++ bytes
copies-more zero bytes = append-nil bytes
copies-more (suc n) bytes =
    ap (λ l. bytes ++ l) (copies-more n bytes) ∙ sym (append_assoc bytes (copies n bytes) bytes)

-- one type more, at the end
pub types-more : (k n : ℕ) → types_from k (suc n) ≡ types_from k n ++ type_at ((k + n) % 4)
types-more k zero =
    let same : k + 0 ≡ k = omega arith in
    append-nil (type_at (k % 4)) ∙ ap (λ m. type_at (m % 4)) (sym same)
types-more k (suc n) =
    let same : k + 1 + n ≡ k + suc n = omega arith in
    ap (λ l. type_at (k % 4) ++ l) (types-more (k + 1) n)
    ∙ ap (λ m. type_at (k % 4) ++ (types_from (k + 1) n ++ type_at (m % 4))) same
    ∙ sym (append_assoc (type_at (k % 4)) (types_from (k + 1) n) (type_at ((k + suc n) % 4)))

pub copies-next : (before now then bytes : List ℕ) (n : ℕ) → now ≡ before ++ copies n bytes → then ≡ now ++ bytes
    → then ≡ before ++ copies (n + 1) bytes
copies-next before now then bytes n so_far more =
    let next : copies (n + 1) bytes ≡ copies n bytes ++ bytes = rw add-one (copies-more n bytes) in
    more ∙ ap (λ l. l ++ bytes) so_far ∙ append_assoc before (copies n bytes) bytes
    ∙ ap (λ l. before ++ l) (sym next)

-- ---- a name, piece by piece
pub name-made : (i : ℕ) (a b c d e : List ℕ) → a ≡ [] → b ≡ a ++ codes "_ZN"
    → c ≡ b ++ copies (1 + i % 7) (source_name i) → d ≡ c ++ codes "E" → e ≡ d ++ types_from i (1 + i % 4)
    → e ≡ sample_name i
unfolding sample_name
name-made i a b c d e empty first parts last types =
    let b' : b ≡ codes "_ZN" = first ∙ ap (λ l. l ++ codes "_ZN") empty in
    let c' = parts ∙ ap (λ l. l ++ copies (1 + i % 7) (source_name i)) b' in
    let d' = last ∙ ap (λ l. l ++ codes "E") c' in
    types ∙ ap (λ l. l ++ types_from i (1 + i % 4)) d'

-- ---- what is due, piece by piece
pub summary-made : (o : FilterOptions) (n read bytes : ℕ) (a b c d e : List ℕ) → Counted o n read bytes → a ≡ []
    → b ≡ a ++ codes "names " ++ decimal n → c ≡ b ++ codes " read " ++ decimal read
    → d ≡ c ++ codes " bytes " ++ decimal bytes → e ≡ d ++ 10 ∷ [] → e ≡ summary o n
unfolding summary
summary-made o n read bytes a b c d e counted empty names reads all ends =
    let texts = sample_texts o n in
    let b' : b ≡ codes "names " ++ decimal n = names ∙ ap (λ l. l ++ codes "names " ++ decimal n) empty in
    let c' = reads ∙ ap (λ l. l ++ codes " read " ++ decimal read) b'
    ∙ ap (λ k. codes "names " ++ decimal n ++ codes " read " ++ decimal k) counted.0 in
    let d' = all ∙ ap (λ l. l ++ codes " bytes " ++ decimal bytes) c'
    ∙ ap (λ k. codes "names " ++ decimal n ++ codes " read " ++ decimal (length texts) ++ codes " bytes " ++ decimal k)
    counted.1 in
    ends ∙ ap (λ l. l ++ 10 ∷ []) d'

-- ---- a name's text
pub length-found : (out : Outcome) (new text : List ℕ) (n : ℕ) → answer_of out ≡ Ok text → new ≡ [] ++ text
    → n ≡ length new → IsLength (text_in out) (Some n)
length-found (Shown t) new text n found is counted =
    (text, ap (λ l. l ∷ []) cc, counted ∙ ap length is)
length-found (NotRead k) new text n found is counted = absurd cc
length-found (NotPrinted f) new text n found is counted = absurd cc

pub none-found : (out : Outcome) (f : SymbolFault) → answer_of out ≡ Err f → IsLength (text_in out) None
none-found (Shown t) f found = absurd cc
none-found (NotRead k) f found = refl
none-found (NotPrinted g) f found = refl
