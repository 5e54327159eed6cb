mod Bursts
mod Passed
mod Posted
mod Receipts
mod Reported
mod Tries
mod Works
