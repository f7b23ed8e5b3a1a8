-- Some lines as terms of their calls, as answers of printing functions have them.
use Rattle.std.proofs.Common.{◌≡◌, ℕ, Bool, true, false, List, [], ◌∷◌, codes, length, ◌||◌, Option, Some, None}
use Rattle.std.proofs.Common.{refl, sym, ap}
use Rattle.demangle_core.specs.Core.{Core, Tag, node, end}
use Rattle.demangle_printing.specs.World.{World}
use Rattle.demangle_printing.specs.State.{tprefix, nprefix, yes, written, spaced, flagged}
use Rattle.demangle_printing.specs.State.{Held, popped, is_on, is_byte}
use Rattle.demangle_printing.specs.State as kind
use Rattle.demangle_printing.specs.Scope.{Scope, with_leaf}
use Rattle.demangle_printing.specs.Act.{done, text, call}
use Rattle.demangle_printing.specs.Act as job
use Rattle.demangle_printing.specs.Rules.{inner_of, leaf_name_of, inside_of, lines_of, turns, tag}
use Rattle.demangle_printing.specs.Rules.{is_rvalue, is_lvalue_top, rvalues, joined}
use Rattle.demangle_printing.specs.Arrays.{array, turn_node, array_turns}
use Rattle.demangle_printing.specs.Parameters.{some, wanted, is_kept, is_void, space_unless, explicit_object}
use Rattle.demangle_printing.specs.Parameters.{parameters_end}
use Rattle.demangle_printing.specs.Reader.{run}
use Rattle.demangle_printing.specs.Step.{Step}
use Rattle.demangle_printing.specs.Print.{body}
use Rattle.demangle_printing.specs.Lines.{line_steps}
use Rattle.demangle_printing.specs.Lines.Functions.{in_leaf_scope}
use Rattle.demangle_meets.specs.Page.{Page}
use Rattle.demangle_meets.specs.Place.{Place, world_of}
use Rattle.demangle_meets.specs.Calls.{Steps, Enters, Stops, Pushes, PopsOwn, KeepsTop, Returns, SetsAside}
use Rattle.demangle_meets.specs.Calls.{BringsBack, Begins}
use Rattle.demangle_meets.specs.Calls.{Ends}
use Rattle.demangle_meets.specs.Meets.{Meets, Prints, Inner, Closes, Sifts}
use Rattle.demangle_meets.proofs.Acts.{meets_done, meets_text, meets_space, meets_set, meets_choose_on}
use Rattle.demangle_meets.proofs.Acts.{meets_choose_off}
use Rattle.demangle_meets.proofs.Acts.{meets_block, meets_ask, closes_own}
use Rattle.demangle_meets.proofs.Around.{meets_held, meets_fence}
use Rattle.demangle_meets.proofs.Events.{meets_event}
use Rattle.demangle_meets.proofs.Parts.{prints_node, prints_deep, meets_line, meets_part, meets_at, meets_found}
use Rattle.demangle_meets.proofs.Lines.{first_of_list, next_of_list, list_ends, turns_all, then_turn, turns_end}
use Rattle.demangle_meets.proofs.Lines.{rvalues_all, then_rvalue, rvalues_other, meets_joined, arrays_all, then_array}
use Rattle.demangle_meets.proofs.Lines.{arrays_end, meets_parameters}
use Rattle.demangle_meets.proofs.Sifted.{sifts_kept, sifts_done, sifts_none, meets_sift}

module _ (p q : Place) (sc : Scope Core) (t u : Tag) (c d : Core) where
  -- `let Some(below) = below.enter(ctx) else { return };`
  deep : {a b : Page} → Stops p a b → Prints p a b (node Tag.TypeNodeComplex (node t c end) end) sc
  deep f = prints_deep refl f

  -- a part, and a text
  complex : {a o m b : Page} → Enters p q a o → Prints q o m (node t c end) sc →
      Steps m b (written (codes " complex")) →
      Prints p a b (node Tag.TypeNodeComplex (node t c end) end) sc
  unfolding body line_steps
  complex e part write = prints_node refl e (meets_part part (meets_text write meets_done))

  -- a part in the midst: push, the part, close
  pointer : {a o m n b : Page} → Enters p q a o → Pushes q.level o m (node Tag.TypeNodePointerTo (node t c end) end) →
      Prints q m n (node t c end) sc →
      Closes q n b (inner_of (world_of q.refers) (node Tag.TypeNodePointerTo (node t c end) end) sc done) →
      Prints p a b (node Tag.TypeNodePointerTo (node t c end) end) sc
  unfolding body line_steps
  pointer e push part close = prints_node refl e (meets_held push (meets_part part meets_done) close meets_done)

  -- `if ctx.pop_own(below.level()) { below.inner(item, scope, ctx); }`
  close : {a m b : Page} {x : Core} → PopsOwn p.level a m true → Inner p m b x sc →
      Closes p a b (inner_of (world_of p.refers) x sc done)
  close pop inner = closes_own pop inner.meets

  -- flags, the events of a node, items set aside, two parts
  prefix : {z a b e f g h i j : Page} {told : Bool} {count : ℕ} → Enters p q z a →
      (a.trouble ≡ None → is_on tprefix a.flags ≡ false) → (a.trouble ≡ None → is_on nprefix a.flags ≡ true) →
      Steps a b (λ s. yes [] (flagged nprefix false s)) → Begins b e kind.nested_name told → SetsAside e f count →
      Prints q f g (node t c end) sc → Steps g h (written (codes "::")) → Prints q h i (node u d end) sc →
      (k : Page) → BringsBack count i k → Ends told k j →
      Prints p z j (node Tag.PrefixNested (node t c (node u d end)) end) sc
  unfolding body line_steps
  prefix e off on set begin barrier first write second k restore ends =
      prints_node refl e
      (meets_choose_off (λ s. is_on tprefix s.flags) _ off
      (meets_choose_on (λ s. is_on nprefix s.flags) _ on
      (meets_set {i = nprefix} {v = false} set (meets_event begin
      (meets_fence barrier (meets_part first (meets_text write (meets_part second meets_done))) restore meets_done) ends
      meets_done)) meets_done) meets_done)

  -- a function's encoding: its leaf name is looked up, and what stands in its scope is a function of its own
  encoding : {a o m n b : Page} {r : Option Core} {count : ℕ} → Enters p q a o → SetsAside o m count →
      r ≡ leaf_name_of (world_of q.refers) (Some (node t c end)) →
      Meets q m n (run (world_of q.refers) (Some (node Tag.EncodingFunction (node t c (node u d end)) end))
      (with_leaf r sc) in_leaf_scope) →
      BringsBack count n b → Prints p a b (node Tag.EncodingFunction (node t c (node u d end)) end) sc
  unfolding body line_steps
  encoding e barrier found inner restore =
      prints_node refl e
      (meets_fence barrier
      (meets_found
      (λ y. run (world_of q.refers) (Some (node Tag.EncodingFunction (node t c (node u d end)) end)) (with_leaf y sc)
      (Step.block in_leaf_scope Step.done)) found (meets_block inner meets_done) meets_done) restore meets_done)

-- the parameters of a function, where a pointer waits and the first of them isn't `void` alone
module _ (p q : Place) (types : List Core) (sc : Scope Core) where
  abbrev w : World Core
  w = world_of q.refers

  parameters : {z a b c d e f g h i j k m : Page} {count : ℕ} → Enters p q z a →
      (a.trouble ≡ None → wanted w a.inner ≡ some) →
      (a.trouble ≡ None → (is_byte 40 a.last || is_byte 42 a.last) ≡ false) → Steps a b spaced →
      Steps b c (written (codes "(")) → Sifts q c d (is_kept w) (inside_of w sc) (length c.inner) →
      Returns (length c.kept) d e → Steps e f (written (codes ")")) → Steps f g (written (codes "(")) →
      is_void w types ≡ false → (g.trouble ≡ None → g.flags.object ≡ false) → SetsAside g h count →
      Meets q h i (lines_of w types sc) → BringsBack count i j → Steps j k (written (codes ")")) →
      Meets q k m (turns w (length k.inner) sc) → Meets p z m (call (job.parameters types) sc done)
  unfolding body
  parameters e want byte space before sifts returns behind first void object barrier listed restore last waits =
      meets_line e
      (meets_parameters types sc some want
      (meets_block
      (meets_ask (λ z. ap (space_unless w) (byte z)) (meets_space space meets_done) (meets_text before meets_done))
      (meets_sift sifts returns (meets_block (meets_text behind meets_done) (meets_text first
      (meets_at (λ v. parameters_end w v types sc) (sym void)
      (meets_ask (λ z. ap (explicit_object w) (object z)) meets_done
      (meets_fence barrier listed restore (meets_text last (meets_ask (λ _. refl) waits meets_done))))))))))

  -- of the items one is kept, the next is done, and then none is left
  sifted : {a b c d : Page} {h k : Held Core} {hs ks : List (Held Core)} →
      (a.trouble ≡ None → a.inner ≡ h ∷ hs) → is_kept w h.item ≡ true → KeepsTop a b h →
      (b.trouble ≡ None → b.inner ≡ k ∷ ks) → is_kept w k.item ≡ false → Steps b c (λ s. yes [] (popped s)) →
      Inner q c d k.item sc → (d.trouble ≡ None → d.inner ≡ []) → Sifts q a d (is_kept w) (inside_of w sc) 5
  sifted top kept keep next not_kept pop inner none =
      sifts_kept top kept keep (sifts_done next not_kept pop inner.meets (sifts_none none))

  -- two of a list
  list : {a b c d : Page} {x y : Core} → Prints q a b x sc → Steps b c (written (codes ", ")) → Prints q c d y sc →
      Meets q a d (lines_of w (x ∷ y ∷ []) sc)
  list first comma second = list_ends (next_of_list (first_of_list _ first) comma second)

  -- two items that wait, and then none is left
  waiting : {a b c d e : Page} {h k : Held Core} {hs ks : List (Held Core)} →
      (a.trouble ≡ None → a.inner ≡ h ∷ hs) → Steps a b (λ s. yes [] (popped s)) → Inner q b c h.item sc →
      (c.trouble ≡ None → c.inner ≡ k ∷ ks) → Steps c d (λ s. yes [] (popped s)) → Inner q d e k.item sc →
      (e.trouble ≡ None → e.inner ≡ []) → Meets q a e (turns w 4 sc)
  waiting top pop inner next pop_next inner_next none =
      turns_end (then_turn (then_turn (turns_all 4) top pop inner) next pop_next inner_next) none

  -- a right reference on top is taken, and the next item is none
  taken : {a b : Page} {h k : Held Core} {hs ks : List (Held Core)} →
      (a.trouble ≡ None → a.inner ≡ h ∷ hs) → is_rvalue w (tag w h.item) ≡ true →
      Steps a b (λ s. yes [] (popped s)) → (b.trouble ≡ None → b.inner ≡ k ∷ ks) →
      is_rvalue w (tag w k.item) ≡ false → Meets q a b (rvalues w 2)
  taken top is pop next other = rvalues_other (then_rvalue (rvalues_all 2) top is pop) next other

  -- a reference is written where no left one is among those that it is joined with
  joins : {a b c d : Page} → Meets q a b (rvalues w (length a.inner)) →
      (b.trouble ≡ None → is_lvalue_top w b.inner ≡ false) → Steps b c (written (codes "&&")) → Meets q c d done →
      Meets q a d (joined w (text (codes "&&") done) done)
  joins right left write rest = meets_joined false right left (meets_text write meets_done) rest

  -- other bounds before these
  bounds : {a b c : Page} {h : Held Core} {hs : List (Held Core)} → (a.trouble ≡ None → a.inner ≡ h ∷ hs) →
      turn_node w h.item (tag w h.item) ≡ array → Steps a b (λ s. yes [] (popped s)) → Inner q b c h.item sc →
      (c.trouble ≡ None → c.inner ≡ []) → Meets q a c (array_turns w 3 sc true)
  bounds top is pop inner none = arrays_end (then_array (arrays_all 3 true) top is pop inner) none meets_done
