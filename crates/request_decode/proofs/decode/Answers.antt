-- `request_decode::decode` meets its contract: each way out is one law of the order of the checks. Assumes nothing.
use Rattle.std.proofs.Common.{ap, ◌≡◌, ◌∙◌, true, ◌-◌, length, rules}
use Rattle.std.specs.Prelude.{not}
use Rattle.laws.specs.All.{flag_true}
use Rattle.protocol.specs.declared.Subcommand.TheVariants.{Count}
use Rattle.protocol.specs.Subcommands.{command_number}
use Rattle.protocol.specs.Decode.{body_fits, refused_with}
use Rattle.request_decode.proofs.Decoded.{Passed, too_few, too_many, not_ours, passes, no-command, wrong-body, count-is, has-crc, wrong-crc, request-is}
use Rattle.request_decode.proofs.decode.Goals as goal
use Rattle.request_decode.proofs.decode.Goals.{Else-not-body_fits, Else-not-is_oem}

-- what the tests passed so far say, at the place where the OEM number is right, and where the body's length is
passed : (c : Else-not-is_oem) → Passed c.args.message.now
passed c = passes _ c.if-n-lt-HEADER_SIZE.false c.if-n-gt-MESSAGE_SIZE.false _ c.is_oem.ensures (ap not c.if-not-is_oem.false)

fits : (c : Else-not-body_fits) → body_fits (command_number c.in-Ok.sub) (length c.args.message.now - 4) ≡ true
fits c = flag_true c.body_fits.ensures (ap not c.if-not-body_fits.false)

pub returns-then-n-lt-HEADER_SIZE : goal.returns-then-n-lt-HEADER_SIZE
returns-then-n-lt-HEADER_SIZE c = too_few _ c.if-n-lt-HEADER_SIZE.true

pub returns-then-n-gt-MESSAGE_SIZE : goal.returns-then-n-gt-MESSAGE_SIZE
returns-then-n-gt-MESSAGE_SIZE c = too_many _ c.if-n-lt-HEADER_SIZE.false c.if-n-gt-MESSAGE_SIZE.true

pub returns-then-not-is_oem : goal.returns-then-not-is_oem
returns-then-not-is_oem c = not_ours _ c.if-n-lt-HEADER_SIZE.false c.if-n-gt-MESSAGE_SIZE.false _ c.is_oem.ensures (ap not c.if-not-is_oem.true)

pub returns-in-Err : goal.returns-in-Err
returns-in-Err c = ap refused_with c.in-Err.ensures.0 ∙ no-command _ (passed (goal.at.returns-in-Err c).Else-not-is_oem) c.in-Err.ensures.1

pub returns-then-not-body_fits : goal.returns-then-not-body_fits
returns-then-not-body_fits c =
    wrong-body _ (passed (goal.at.returns-then-not-body_fits c).Else-not-is_oem) c.in-Ok.sub c.in-Ok.ensures _ c.body_fits.ensures (ap not c.if-not-body_fits.true)

pub returns-then-eq : goal.returns-then-eq
returns-then-eq c =
    let count : c.in-Ok.sub ≡ Count = search rules in
    let at = goal.at.returns-then-eq c in
    count-is _ (passed at.Else-not-is_oem) c.in-Ok.sub c.in-Ok.ensures (fits at.Else-not-body_fits) count

pub crc_fits-requires : goal.crc_fits-requires
crc_fits-requires c =
    let other : c.in-Ok.sub ≡ Count → ⊥ = search rules in
    let at = goal.at.crc_fits-requires c in
    has-crc _ (passed at.Else-not-is_oem) c.in-Ok.sub c.in-Ok.ensures (fits at.Else-not-body_fits) other

pub returns-then-not-crc_fits : goal.returns-then-not-crc_fits
returns-then-not-crc_fits c =
    let other : c.in-Ok.sub ≡ Count → ⊥ = search rules in
    let at = goal.at.returns-then-not-crc_fits c in
    wrong-crc _ (passed at.Else-not-is_oem) c.in-Ok.sub c.in-Ok.ensures (fits at.Else-not-body_fits) _ c.fields_of-f.ensures _ c.crc_fits.ensures other
    (ap not c.if-not-crc_fits.true)

pub request_of-requires : goal.request_of-requires
request_of-requires c = (fits (goal.at.request_of-requires c).Else-not-body_fits, c.fields_of-f.ensures)

pub returns : goal.returns
returns c =
    let other : c.in-Ok.sub ≡ Count → ⊥ = search rules in
    let at = goal.at.returns c in
    request-is _ (passed at.Else-not-is_oem) c.in-Ok.sub c.in-Ok.ensures (fits at.Else-not-body_fits) _ c.fields_of-f.ensures _ c.crc_fits.ensures other _
    (ap not c.if-not-crc_fits.false) c.request_of.ensures
