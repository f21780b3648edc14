-- If `IsFramed` holds, it still holds after one more transaction, flush or synchronization.
use Rattle.std.proofs.Common.{◌≡◌, ◌∙◌, ◌++◌, ◌⊎◌, inl, inr, true, false, ℕ, Bool, List, [], ◌∷◌, length, refl, sym, subst, ap, arith}
use Rattle.std.proofs.lemmas.Bool.{false≢true}
use Rattle.std.proofs.lemmas.List.{append-nil, append_assoc}
use Rattle.std.proofs.lemmas.List.Elements.{All-nil, All-cons, All-append}
use Rattle.nor_model.specs.Exchange.{Exchange}
use Rattle.nor_model.specs.History.{replied, stopped}
use Rattle.nor_serprog.specs.declared.batch.Batch.{Batch}
use Rattle.nor_serprog.specs.declared.port.Port.{Ghosts}
use Rattle.nor_serprog.specs.Frame.{operation_frame}
use Rattle.nor_serprog.specs.Link.{is_in_step}
use Rattle.nor_serprog.specs.Asked.{bytes_of_calls, enable_frame, lead_frame, AsksLead, AsksInOrder, FitsOperation, IsLongProgram, IsOneOperation, MayFrame, AreFrames, IsFramed, AreNops, AsksSync, nop_row}

abbrev Whole : List ℕ → Type 0
Whole argument = IsOneOperation argument ⊎ AreNops argument

pub framed_none : (start : List (List ℕ)) → IsFramed start start false []
framed_none start = record {
  later = [];
  since = refl;
  frames = All-nil (λ (byte : ℕ). (byte ≡ 0x10) ⊎ (byte ≡ 0x00));
  whole = All-nil Whole;
}

lead_whole : Whole enable_frame
lead_whole =
    inl (record {
      waits = false;
      out = 0x06 ∷ [];
      replies = 0;
      fits = (omega arith, omega arith);
      led = λ waits. absurd (false≢true waits);
      is = refl;
    })

more : (exchange : Exchange) (earlier : List Exchange) (before last bytes : List ℕ) → AreFrames earlier before
    → MayFrame exchange last → bytes ≡ before ++ last → AreFrames (exchange ∷ earlier) bytes
more exchange earlier before last bytes framed may is =
    record {
      before = before;
      last = last;
      syncs = [];
      is = is ∙ ap (λ (l : List ℕ). before ++ l) (sym (append-nil last));
      nops = All-nil (λ (byte : ℕ). (byte ≡ 0x10) ⊎ (byte ≡ 0x00));
      earlier = framed;
      frame = may;
    }

pub framed_rejected : (start asked : List (List ℕ)) (waits : Bool) (history : List Exchange) (out : List ℕ)
    → IsFramed start asked waits history → IsFramed start asked waits (stopped out ∷ history)
framed_rejected start asked waits history out f = record {
  later = f.later;
  since = f.since;
  frames = more (stopped out) history (bytes_of_calls f.later ++ lead_frame waits) [] _ f.frames (inl refl)
      (sym (append-nil (bytes_of_calls f.later ++ lead_frame waits)));
  whole = f.whole;
}

pub framed_flushed : (start old new : List (List ℕ)) (waits : Bool) (history : List Exchange)
    → IsFramed start old waits history → AsksLead waits old new → IsFramed start new false history
framed_flushed start old new true history f asks = record {
  later = enable_frame ∷ f.later;
  since = asks ∙ ap (λ (o : List (List ℕ)). enable_frame ∷ o) f.since;
  frames = subst (AreFrames history) (sym (append-nil (bytes_of_calls f.later ++ enable_frame))) f.frames;
  whole = All-cons Whole enable_frame f.later lead_whole f.whole;
}
framed_flushed start old new false history f asks = record {
  later = f.later;
  since = asks ∙ f.since;
  frames = f.frames;
  whole = f.whole;
}

pub framed_stopped : (start old new : List (List ℕ)) (waits : Bool) (history : List Exchange) (out : List ℕ)
    → IsFramed start old waits history → AsksLead waits old new → IsFramed start new false (stopped out ∷ history)
framed_stopped start old new waits history out f asks =
    framed_rejected start new false history out (framed_flushed start old new waits history f asks)

pub framed_waits : (start old new : List (List ℕ)) (waits : Bool) (history : List Exchange) (reply : List ℕ)
    → length reply ≡ 0 → IsFramed start old waits history → AsksLead waits old new
    → IsFramed start new true (replied (0x06 ∷ []) reply ∷ history)
framed_waits start old new waits history reply none f asks =
    let g = framed_flushed start old new waits history f asks in
    record {
      later = g.later;
      since = g.since;
      frames = more (replied (0x06 ∷ []) reply) history (bytes_of_calls g.later ++ []) enable_frame _ g.frames (
        subst (FitsOperation (0x06 ∷ [])) (sym none) (omega arith, omega arith),
        ap (λ (n : ℕ). operation_frame (0x06 ∷ []) n) (sym none),
      )
          (ap (λ (b : List ℕ). b ++ enable_frame) (sym (append-nil (bytes_of_calls g.later))));
      whole = g.whole;
    }

pub framed_asked : (start old new : List (List ℕ)) (waits : Bool) (history : List Exchange) (exchange : Exchange)
    (out : List ℕ) (replies : ℕ) → FitsOperation out replies → MayFrame exchange (operation_frame out replies)
    → IsFramed start old waits history
    → ((new ≡ (lead_frame waits ++ operation_frame out replies) ∷ old) × (waits ≡ true → IsLongProgram out))
    ⊎ ((waits ≡ true) × (new ≡ operation_frame out replies ∷ enable_frame ∷ old))
    → IsFramed start new false (exchange ∷ history)
framed_asked start old new waits history exchange out replies fits may f (inl (asks, led)) = record {
  later = (lead_frame waits ++ operation_frame out replies) ∷ f.later;
  since = asks ∙ ap (λ (o : List (List ℕ)). (lead_frame waits ++ operation_frame out replies) ∷ o) f.since;
  frames = more exchange history (bytes_of_calls f.later ++ lead_frame waits) (operation_frame out replies) _ f.frames may
      (append-nil (bytes_of_calls f.later ++ (lead_frame waits ++ operation_frame out replies))
      ∙ sym (append_assoc (bytes_of_calls f.later) (lead_frame waits) (operation_frame out replies)));
  whole = All-cons Whole (lead_frame waits ++ operation_frame out replies) f.later
      (inl (record { waits = waits; out = out; replies = replies; fits = fits; led = led; is = refl })) f.whole;
}
framed_asked start old new waits history exchange out replies fits may f (inr (waited, asks)) =
    let lead : AsksLead waits old (enable_frame ∷ old) =
    subst (λ (w : Bool). AsksLead w old (enable_frame ∷ old)) (sym waited) refl in
    let g = framed_flushed start old (enable_frame ∷ old) waits history f lead in
    record {
      later = operation_frame out replies ∷ g.later;
      since = asks ∙ ap (λ (o : List (List ℕ)). operation_frame out replies ∷ o) g.since;
      frames = more exchange history (bytes_of_calls g.later ++ []) (operation_frame out replies) _ g.frames may
          (append-nil (bytes_of_calls g.later ++ operation_frame out replies)
          ∙ ap (λ (b : List ℕ). b ++ operation_frame out replies) (sym (append-nil (bytes_of_calls g.later))));
      whole = All-cons Whole (operation_frame out replies) g.later
          (inl (record {
            waits = false;
            out = out;
            replies = replies;
            fits = fits;
            led = λ waits. absurd (false≢true waits);
            is = refl;
          })) g.whole;
    }

pub framed_ok : (start old new : List (List ℕ)) (waits waits' : Bool) (history history' : List Exchange)
    (out reply : List ℕ) (len : ℕ) → length reply ≡ len → history' ≡ replied out reply ∷ history
    → (waits' ≡ true → (out ≡ 0x06 ∷ []) × (len ≡ 0)) → (waits' ≡ true → AsksLead waits old new)
    → (waits' ≡ false → AsksInOrder waits out len old new)
    → IsFramed start old waits history → IsFramed start new waits' history'
framed_ok start old new waits true history history' out reply len is added enable led sent f =
    let e = enable refl in
    let g = framed_waits start old new waits history reply (is ∙ e.1) f (led refl) in
    subst (λ (h : List Exchange). IsFramed start new true h)
    (ap (λ (o : List ℕ). replied o reply ∷ history) (sym e.0) ∙ sym added) g
framed_ok start old new waits false history history' out reply len is added enable led sent f =
    subst (λ (h : List Exchange). IsFramed start new false h) (sym added)
    (framed_asked start old new waits history (replied out reply) out len (sent refl).fits
    (subst (FitsOperation out) (sym is) (sent refl).fits, ap (λ (n : ℕ). operation_frame out n) (sym is)) f
    (sent refl).asks)

framed_cut : (start old new : List (List ℕ)) (waits : Bool) (history : List Exchange) (out : List ℕ) (len : ℕ)
    → AsksLead waits old new ⊎ AsksInOrder waits out len old new
    → IsFramed start old waits history → IsFramed start new false (stopped out ∷ history)
framed_cut start old new waits history out len (inl lead) f = framed_stopped start old new waits history out f lead
framed_cut start old new waits history out len (inr sent) f =
    framed_asked start old new waits history (stopped out) out len sent.fits (inr (len, (sent.fits, refl))) f sent.asks

pub framed_err : {P C : Type 0} {over : Ghosts P C} (start : List (List ℕ)) (old new : Batch P C over)
    (history history' : List Exchange) (out : List ℕ) (len : ℕ) → history' ≡ stopped out ∷ history
    → (new ≡ old) ⊎ ((is_in_step new.link ≡ false)
    × (AsksLead old.waits (over.state old.link.port).asked (over.state new.link.port).asked
    ⊎ AsksInOrder old.waits out len (over.state old.link.port).asked (over.state new.link.port).asked))
    → IsFramed start (over.state old.link.port).asked old.waits history
    → IsFramed start (over.state new.link.port).asked new.waits history'
framed_err {P} {C} {over} start old new history history' out len added (inl same) f =
    subst (λ (h : List Exchange). IsFramed start (over.state new.link.port).asked new.waits h) (sym added)
    (subst (λ (b : Batch P C over). IsFramed start (over.state b.link.port).asked b.waits (stopped out ∷ history))
    (sym same) (framed_rejected start (over.state old.link.port).asked old.waits history out f))
framed_err {P} {C} {over} start old new history history' out len added (inr (lost, asks)) f =
    subst (λ (h : List Exchange). IsFramed start (over.state new.link.port).asked new.waits h) (sym added)
    (subst (λ (w : Bool). IsFramed start (over.state new.link.port).asked w (stopped out ∷ history))
    (sym (new.spent lost)) (framed_cut start (over.state old.link.port).asked (over.state new.link.port).asked old.waits
    history out len asks f))

pub framed_flush : {P C : Type 0} {over : Ghosts P C} (start : List (List ℕ)) (old new : Batch P C over)
    (history : List Exchange) → new.waits ≡ false
    → AsksLead old.waits (over.state old.link.port).asked (over.state new.link.port).asked
    → IsFramed start (over.state old.link.port).asked old.waits history
    → IsFramed start (over.state new.link.port).asked new.waits history
framed_flush {P} {C} {over} start old new history none asks f =
    subst (λ (w : Bool). IsFramed start (over.state new.link.port).asked w history) (sym none)
    (framed_flushed start (over.state old.link.port).asked (over.state new.link.port).asked old.waits history f asks)

synced : (history : List Exchange) (bytes syncs : List ℕ) → AreNops syncs → AreFrames history bytes
    → AreFrames history (bytes ++ syncs)
synced [] bytes syncs nops f = All-append (λ (byte : ℕ). (byte ≡ 0x10) ⊎ (byte ≡ 0x00)) bytes syncs f nops
synced (exchange ∷ earlier) bytes syncs nops f = record {
  before = f.before;
  last = f.last;
  syncs = f.syncs ++ syncs;
  is = ap (λ (b : List ℕ). b ++ syncs) f.is ∙ append_assoc f.before (f.last ++ f.syncs) syncs
      ∙ ap (λ (b : List ℕ). f.before ++ b) (append_assoc f.last f.syncs syncs);
  nops = All-append (λ (byte : ℕ). (byte ≡ 0x10) ⊎ (byte ≡ 0x00)) f.syncs syncs f.nops nops;
  earlier = f.earlier;
  frame = f.frame;
}

synced_once : (start old new : List (List ℕ)) (history : List Exchange) (syncs : List ℕ) → AreNops syncs
    → new ≡ syncs ∷ old → IsFramed start old false history → IsFramed start new false history
synced_once start old new history syncs nops asks f = record {
  later = syncs ∷ f.later;
  since = asks ∙ ap (λ (o : List (List ℕ)). syncs ∷ o) f.since;
  frames = subst (AreFrames history)
      (ap (λ (b : List ℕ). b ++ syncs) (append-nil (bytes_of_calls f.later)) ∙ sym (append-nil (bytes_of_calls f.later ++ syncs)))
      (synced history (bytes_of_calls f.later ++ []) syncs nops f.frames);
  whole = All-cons Whole syncs f.later (inr nops) f.whole;
}

nop : (byte : ℕ) (rest : List ℕ) → (byte ≡ 0x10) ⊎ (byte ≡ 0x00) → AreNops rest → AreNops (byte ∷ rest)
nop byte rest is nops = All-cons (λ (b : ℕ). (b ≡ 0x10) ⊎ (b ≡ 0x00)) byte rest is nops

none : AreNops []
none = All-nil (λ (byte : ℕ). (byte ≡ 0x10) ⊎ (byte ≡ 0x00))

pub first_nops : AreNops (0x00 ∷ [])
first_nops = nop 0 [] (inr refl) none

pub row_nops : AreNops nop_row
row_nops =
    let at18 = nop 0 ([]) (inr refl) none in
    let at17 = nop 16 (0 ∷ []) (inl refl) at18 in
    let at16 = nop 16 (16 ∷ 0 ∷ []) (inl refl) at17 in
    let at15 = nop 16 (16 ∷ 16 ∷ 0 ∷ []) (inl refl) at16 in
    let at14 = nop 0 (16 ∷ 16 ∷ 16 ∷ 0 ∷ []) (inr refl) at15 in
    let at13 = nop 0 (0 ∷ 16 ∷ 16 ∷ 16 ∷ 0 ∷ []) (inr refl) at14 in
    let at12 = nop 16 (0 ∷ 0 ∷ 16 ∷ 16 ∷ 16 ∷ 0 ∷ []) (inl refl) at13 in
    let at11 = nop 0 (16 ∷ 0 ∷ 0 ∷ 16 ∷ 16 ∷ 16 ∷ 0 ∷ []) (inr refl) at12 in
    let at10 = nop 16 (0 ∷ 16 ∷ 0 ∷ 0 ∷ 16 ∷ 16 ∷ 16 ∷ 0 ∷ []) (inl refl) at11 in
    let at9 = nop 16 (16 ∷ 0 ∷ 16 ∷ 0 ∷ 0 ∷ 16 ∷ 16 ∷ 16 ∷ 0 ∷ []) (inl refl) at10 in
    let at8 = nop 0 (16 ∷ 16 ∷ 0 ∷ 16 ∷ 0 ∷ 0 ∷ 16 ∷ 16 ∷ 16 ∷ 0 ∷ []) (inr refl) at9 in
    let at7 = nop 0 (0 ∷ 16 ∷ 16 ∷ 0 ∷ 16 ∷ 0 ∷ 0 ∷ 16 ∷ 16 ∷ 16 ∷ 0 ∷ []) (inr refl) at8 in
    let at6 = nop 0 (0 ∷ 0 ∷ 16 ∷ 16 ∷ 0 ∷ 16 ∷ 0 ∷ 0 ∷ 16 ∷ 16 ∷ 16 ∷ 0 ∷ []) (inr refl) at7 in
    let at5 = nop 0 (0 ∷ 0 ∷ 0 ∷ 16 ∷ 16 ∷ 0 ∷ 16 ∷ 0 ∷ 0 ∷ 16 ∷ 16 ∷ 16 ∷ 0 ∷ []) (inr refl) at6 in
    let at4 = nop 0 (0 ∷ 0 ∷ 0 ∷ 0 ∷ 16 ∷ 16 ∷ 0 ∷ 16 ∷ 0 ∷ 0 ∷ 16 ∷ 16 ∷ 16 ∷ 0 ∷ []) (inr refl) at5 in
    let at3 = nop 0 (0 ∷ 0 ∷ 0 ∷ 0 ∷ 0 ∷ 16 ∷ 16 ∷ 0 ∷ 16 ∷ 0 ∷ 0 ∷ 16 ∷ 16 ∷ 16 ∷ 0 ∷ []) (inr refl) at4 in
    let at2 = nop 0 (0 ∷ 0 ∷ 0 ∷ 0 ∷ 0 ∷ 0 ∷ 16 ∷ 16 ∷ 0 ∷ 16 ∷ 0 ∷ 0 ∷ 16 ∷ 16 ∷ 16 ∷ 0 ∷ []) (inr refl) at3 in
    let at1 = nop 0 (0 ∷ 0 ∷ 0 ∷ 0 ∷ 0 ∷ 0 ∷ 0 ∷ 16 ∷ 16 ∷ 0 ∷ 16 ∷ 0 ∷ 0 ∷ 16 ∷ 16 ∷ 16 ∷ 0 ∷ []) (inr refl) at2 in
    nop 0 (0 ∷ 0 ∷ 0 ∷ 0 ∷ 0 ∷ 0 ∷ 0 ∷ 0 ∷ 16 ∷ 16 ∷ 0 ∷ 16 ∷ 0 ∷ 0 ∷ 16 ∷ 16 ∷ 16 ∷ 0 ∷ []) (inr refl) at1

synced_by : (start old new : List (List ℕ)) (history : List Exchange) → AsksSync old new
    → IsFramed start old false history → IsFramed start new false history
synced_by start old new history (inl same) f =
    subst (λ (o : List (List ℕ)). IsFramed start o false history) (sym same) f
synced_by start old new history (inr (inl asks)) f =
    synced_once start old new history (0x00 ∷ []) (nop 0x00 [] (inr refl) none) asks f
synced_by start old new history (inr (inr asks)) f =
    synced_once start ((0x00 ∷ []) ∷ old) new history nop_row row_nops asks
    (synced_once start old ((0x00 ∷ []) ∷ old) history (0x00 ∷ []) (nop 0x00 [] (inr refl) none) refl f)

pub framed_sync : {P C : Type 0} {over : Ghosts P C} (start : List (List ℕ)) (old new : Batch P C over)
    (history : List Exchange) → new.waits ≡ old.waits
    → (new ≡ old) ⊎ ((is_in_step old.link ≡ false)
    × AsksSync (over.state old.link.port).asked (over.state new.link.port).asked)
    → IsFramed start (over.state old.link.port).asked old.waits history
    → IsFramed start (over.state new.link.port).asked new.waits history
framed_sync {P} {C} {over} start old new history waits (inl same) f =
    subst (λ (b : Batch P C over). IsFramed start (over.state b.link.port).asked b.waits history) (sym same) f
framed_sync {P} {C} {over} start old new history waits (inr (lost, asks)) f =
    subst (λ (w : Bool). IsFramed start (over.state new.link.port).asked w history)
    (sym (waits ∙ old.spent lost))
    (synced_by start (over.state old.link.port).asked (over.state new.link.port).asked history asks
    (subst (λ (w : Bool). IsFramed start (over.state old.link.port).asked w history) (old.spent lost) f))
