mod ClassNames
mod MemberNames
mod Looks
mod Leading
mod Rows
