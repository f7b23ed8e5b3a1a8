-- Laws on items and on cuts.
use Rattle.std.proofs.Common.{◌≡◌, ℕ, suc, zero, List, [], ◌∷◌, ◌++◌, length}
use Rattle.std.proofs.Common.{◌<◌, lit<, refl, sym, ap, ◌∙◌, append_assoc, append-nil, arith}
use Rattle.std.proofs.Common.{Some, None, map}
use Rattle.demangle_printing.specs.State.{Kind, Event, byte, opened, closed}
use Rattle.demangle_printing.specs.Laws.{open_behind}
use Rattle.demangle_printing.specs.Outcome.{text_of}
use Rattle.demangle_parts_text.specs.Items.{Items, none, text, node, before_top, began, byte_before, items, levels}
use Rattle.demangle_parts_text.specs.Items.{text_in, top}
use Rattle.demangle_parts_text.specs.Laws.{KeepsText}

-- ---- the text of all levels
abbrev texts : List Items → List ℕ
texts [] = []
texts (i ∷ is) = text_in i ++ texts is

-- so many levels, with this text
record Has (n : ℕ) (es : List Event) (is : List Items) : Type 0 where
  count : length is ≡ suc n
  same : texts is ≡ text_of es

byte-text : (b : ℕ) (i : Items) → text_in (byte_before b i) ≡ b ∷ text_in i
byte-text b none = refl
byte-text b (text bs m) = refl
byte-text b (node k w m) = refl

byte-has : (n b : ℕ) (es : List Event) (is : List Items) → Has n es is → Has n (byte b ∷ es) (before_top b is)
byte-has n b es [] h = let c = h.count in absurd (omega arith)
byte-has n b es (i ∷ is) h = record {
  count = h.count;
  same = ap (λ l. l ++ texts is) (byte-text b i) ∙ ap (λ l. b ∷ l) h.same;
}

began-has : (n : ℕ) (k : Kind) (es : List Event) (is : List Items) → Has (suc n) es is
    → Has n (opened k ∷ es) (began k is)
began-has n k es [] h = let c = h.count in absurd (omega arith)
began-has n k es (w ∷ []) h = let c = h.count in absurd (omega arith)
began-has n k es (w ∷ (b ∷ is)) h = record {
  count = (let c = h.count in omega arith);
  same = append_assoc (text_in w) (text_in b) (texts is) ∙ h.same;
}

closed-has : (n : ℕ) (es : List Event) (is : List Items) → Has n es is → Has (suc n) (closed ∷ es) (none ∷ is)
closed-has n es is h = record { count = (let c = h.count in omega arith); same = h.same }

never : (es : List Event) → open_behind es None ≡ Some zero → ⊥
never [] e = cc
never (x ∷ es) e = cc

-- where so many nodes end that began before, and none stays open
has-levels : (es : List Event) (n : ℕ) → open_behind es (Some n) ≡ Some zero → Has n es (levels es)
unfolding levels
has-levels [] n e = record { count = (let z : n ≡ zero = cc in rw z refl); same = refl }
has-levels (byte b ∷ es) n e = byte-has n b es (levels es) (has-levels es n e)
has-levels (opened k ∷ es) n e = began-has n k es (levels es) (has-levels es (suc n) e)
has-levels (closed ∷ es) zero e = absurd (never es e)
has-levels (closed ∷ es) (suc n) e = closed-has n es (levels es) (has-levels es n e)

top-text : (is : List Items) (l : List ℕ) → length is ≡ 1 → texts is ≡ l → text_in (top is) ≡ l
top-text [] l c e = absurd (omega arith)
top-text (i ∷ []) l c e = sym (append-nil (text_in i)) ∙ e
top-text (i ∷ (j ∷ js)) l c e = absurd (omega arith)

pub keeps : KeepsText
keeps es closed' =
    let h = has-levels es zero (closed' zero) in
    top-text (levels es) (text_of es) h.count h.same

-- ---- a node
-- items before others
abbrev pub bytes_before : List ℕ → Items → Items
bytes_before [] i = i
bytes_before (b ∷ bs) i = byte_before b (bytes_before bs i)

abbrev joined : Items → Items → Items
joined none j = j
joined (text bs m) j = bytes_before bs (joined m j)
joined (node k w m) j = node k w (joined m j)

byte-joined : (b : ℕ) (i j : Items) → byte_before b (joined i j) ≡ joined (byte_before b i) j
byte-joined b none j = refl
byte-joined b (text bs m) j = refl
byte-joined b (node k w m) j = refl

abbrev merged : List Items → List Items → List Items
merged [] ts = ts
merged (x ∷ []) [] = x ∷ []
merged (x ∷ []) (t ∷ ts) = joined x t ∷ ts
merged (x ∷ (y ∷ ys)) ts = x ∷ merged (y ∷ ys) ts

byte-step : (b : ℕ) (all : List Items) (ls : List Items) (t : Items) (ts : List Items) (n : ℕ) → length ls ≡ suc n
    → all ≡ merged ls (t ∷ ts) → before_top b all ≡ merged (before_top b ls) (t ∷ ts)
byte-step b all [] t ts n c e = absurd (omega arith)
byte-step b all (x ∷ []) t ts n c e = ap (before_top b) e ∙ ap (λ l. l ∷ ts) (byte-joined b x t)
byte-step b all (x ∷ (y ∷ ys)) t ts n c e = ap (before_top b) e

began-step : (k : Kind) (all : List Items) (ls : List Items) (t : Items) (ts : List Items) (n : ℕ)
    → length ls ≡ suc (suc n) → all ≡ merged ls (t ∷ ts) → began k all ≡ merged (began k ls) (t ∷ ts)
began-step k all [] t ts n c e = absurd (omega arith)
began-step k all (x ∷ []) t ts n c e = absurd (omega arith)
began-step k all (x ∷ (y ∷ [])) t ts n c e = ap (began k) e
began-step k all (x ∷ (y ∷ (z ∷ zs))) t ts n c e = ap (began k) e

closed-step : (all : List Items) (ls : List Items) (t : Items) (ts : List Items) (n : ℕ) → length ls ≡ suc n
    → all ≡ merged ls (t ∷ ts) → none ∷ all ≡ merged (none ∷ ls) (t ∷ ts)
closed-step all [] t ts n c e = absurd (omega arith)
closed-step all (x ∷ xs) t ts n c e = ap (λ l. none ∷ l) e

-- events before others, of which none stays open
merges : (es more : List Event) (t : Items) (ts : List Items) (n : ℕ) → open_behind es (Some n) ≡ Some zero
    → levels more ≡ t ∷ ts → levels (es ++ more) ≡ merged (levels es) (t ∷ ts)
unfolding levels
merges [] more t ts n e is = is
merges (byte b ∷ es) more t ts n e is =
    byte-step b (levels (es ++ more)) (levels es) t ts n (has-levels es n e).count (merges es more t ts n e is)
merges (opened k ∷ es) more t ts n e is =
    began-step k (levels (es ++ more)) (levels es) t ts n (has-levels es (suc n) e).count
    (merges es more t ts (suc n) e is)
merges (closed ∷ es) more t ts zero e is = absurd (never es e)
merges (closed ∷ es) more t ts (suc n) e is =
    closed-step (levels (es ++ more)) (levels es) t ts n (has-levels es n e).count (merges es more t ts n e is)

-- before nothing they are as they were
abbrev Units : List Items → Type 0
Units [] = Unit {0}
Units (i ∷ is) = (joined i none ≡ i) × Units is

byte-units : (b : ℕ) (ls : List Items) → Units ls → Units (before_top b ls)
byte-units b [] u = u
byte-units b (i ∷ is) u = (sym (byte-joined b i none) ∙ ap (byte_before b) u.0, u.1)

began-units : (k : Kind) (ls : List Items) → Units ls → Units (began k ls)
began-units k [] u = u
began-units k (w ∷ []) u = u
began-units k (w ∷ (m ∷ is)) u = (ap (node k w) u.1.0, u.1.1)

units : (es : List Event) → Units (levels es)
unfolding levels
units [] = (refl, tt)
units (byte b ∷ es) = byte-units b (levels es) (units es)
units (opened k ∷ es) = began-units k (levels es) (units es)
units (closed ∷ es) = (refl, units es)

one : (ls : List Items) → length ls ≡ 1 → ls ≡ top ls ∷ []
one [] c = absurd (omega arith)
one (x ∷ []) c = refl
one (x ∷ (y ∷ ys)) c = absurd (omega arith)

one-level : (es : List Event) → open_behind es (Some zero) ≡ Some zero → levels es ≡ items es ∷ []
one-level es e = one (levels es) (has-levels es zero e).count

first-unit : (ls : List Items) (i : Items) → ls ≡ i ∷ [] → Units ls → joined i none ≡ i
first-unit [] i e u = absurd cc
first-unit (x ∷ xs) i e u = let first : x ≡ i = cc in ap (λ z. joined z none) (sym first) ∙ u.0 ∙ first

-- there is always a level
abbrev below : List Items → List Items
below [] = []
below (i ∷ is) = is

byte-some : (b : ℕ) (ls : List Items) → 0 < length ls → 0 < length (before_top b ls)
byte-some b [] h = h
byte-some b (i ∷ is) h = h

began-some : (k : Kind) (ls : List Items) → 0 < length ls → 0 < length (began k ls)
began-some k [] h = h
began-some k (w ∷ []) h = h
began-some k (w ∷ (b ∷ is)) h = omega arith

has-level : (es : List Event) → 0 < length (levels es)
unfolding levels
has-level [] = lit< tt
has-level (byte b ∷ es) = byte-some b (levels es) (has-level es)
has-level (opened k ∷ es) = began-some k (levels es) (has-level es)
has-level (closed ∷ es) = omega arith

some-levels : (ls : List Items) → 0 < length ls → ls ≡ top ls ∷ below ls
some-levels [] h = absurd (omega arith)
some-levels (i ∷ is) h = refl

levels-some : (es : List Event) → levels es ≡ items es ∷ below (levels es)
levels-some es = some-levels (levels es) (has-level es)

-- a node, its items and what is behind it
node-levels : (k : Kind) (w m : List Event) (t : Items) (ts : List Items) → open_behind w (Some zero) ≡ Some zero
    → levels m ≡ t ∷ ts → levels (opened k ∷ (w ++ closed ∷ m)) ≡ node k (items w) t ∷ ts
unfolding levels
node-levels k w m t ts closes' is =
    let one' = one-level w closes' in
    let within : levels (w ++ closed ∷ m) ≡ items w ∷ (t ∷ ts) =
    merges w (closed ∷ m) none (t ∷ ts) zero closes' (ap (λ l. none ∷ l) is)
    ∙ ap (λ l. merged l (none ∷ (t ∷ ts))) one'
    ∙ ap (λ i. i ∷ (t ∷ ts)) (first-unit (levels w) (items w) one' (units w)) in
    ap (began k) within

pub node-front : (k : Kind) (w m : List Event) → open_behind w (Some zero) ≡ Some zero
    → items (opened k ∷ (w ++ closed ∷ m)) ≡ node k (items w) (items m)
node-front k w m closes' = ap top (node-levels k w m (items m) (below (levels m)) closes' (levels-some m))

-- what is behind a node isn't seen within it
pub within-front : (w m : List Event) → open_behind w (Some zero) ≡ Some zero → items (w ++ closed ∷ m) ≡ items w
unfolding levels
within-front w m closes' =
    let one' = one-level w closes' in
    ap top
    (merges w (closed ∷ m) none (levels m) zero closes' refl ∙ ap (λ l. merged l (none ∷ levels m)) one'
    ∙ ap (λ i. i ∷ levels m) (first-unit (levels w) (items w) one' (units w)))

-- a text, and what is behind it
bytes-levels : (bs : List ℕ) (m : List Event) (t : Items) (ts : List Items) → levels m ≡ t ∷ ts
    → levels (map byte bs ++ m) ≡ bytes_before bs t ∷ ts
unfolding levels
bytes-levels [] m t ts is = is
bytes-levels (b ∷ bs) m t ts is = ap (before_top b) (bytes-levels bs m t ts is)

pub text-front : (bs : List ℕ) (m : List Event) → items (map byte bs ++ m) ≡ bytes_before bs (items m)
text-front bs m = ap top (bytes-levels bs m (items m) (below (levels m)) (levels-some m))
