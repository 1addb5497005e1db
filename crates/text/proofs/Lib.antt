mod Numbers
mod Digits
mod Buffers
mod Writing
mod Reading
mod RoundTrip
